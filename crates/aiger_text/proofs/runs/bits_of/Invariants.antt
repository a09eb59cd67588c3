use Rattle.std.proofs.Common.{◌≡◌, take}
use Rattle.aig_blast.specs.BitLists.{number}
use Rattle.aiger_text.proofs.runs.bits_of.Given as goal

abbrev pub invariant-loop-k : goal.invariant-loop-k
invariant-loop-k l = l.number ≡ number (take l.k l.flags)
