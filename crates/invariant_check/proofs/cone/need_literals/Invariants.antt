use Rattle.std.proofs.Common.{◌≡◌, drop}
use Rattle.invariant_check.specs.Cones.{with_literals}
use Rattle.invariant_check.proofs.cone.need_literals.Given as goal

abbrev pub invariant-loop-lit : goal.invariant-loop-lit
invariant-loop-lit l = with_literals l.needed (drop l.lit-index l.lits) ≡ with_literals l.fn.needed l.lits
