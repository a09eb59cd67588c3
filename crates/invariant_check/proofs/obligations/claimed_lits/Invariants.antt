use Rattle.std.proofs.Common.{◌≡◌, take}
use Rattle.invariant_check.specs.Obligations.{claimed_lits}
use Rattle.invariant_check.proofs.obligations.claimed_lits.Given as goal

abbrev pub invariant-loop-output : goal.invariant-loop-output
invariant-loop-output l = l.lits.items ≡ claimed_lits l.outputs (take l.output-index l.claimed)
