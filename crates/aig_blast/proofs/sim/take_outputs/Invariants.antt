use Rattle.std.proofs.Common.{◌≡◌, take}
use Rattle.aig_blast.specs.AigSims.{flags_in}
use Rattle.aig_blast.specs.inner.AigSims.{variable_values}
use Rattle.aig_blast.proofs.sim.take_outputs.Given as goal

-- the outputs so far have their values
abbrev pub invariant-loop-output : goal.invariant-loop-output
invariant-loop-output l = take l.output l.outputs ≡ flags_in (take l.output l.wires) (variable_values l.values)
