use Rattle.std.proofs.Common.{◌≡◌, map, take}
use Rattle.circuit_eval.specs.Run.{is_one}
use Rattle.aig_blast.proofs.machine.put_flags.Given as goal

abbrev pub invariant-loop-flag : goal.invariant-loop-flag
invariant-loop-flag l = take l.flag l.room ≡ map is_one (take l.flag l.outputs)
