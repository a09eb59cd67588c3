use Rattle.std.proofs.Common.{◌≡◌, map, take}
use Rattle.invariant_check.specs.Obligations.{before_step}
use Rattle.invariant_check.proofs.draft.put_before.Given as goal

abbrev pub invariant-loop-literal : goal.invariant-loop-literal
invariant-loop-literal l = l.lits.items ≡ map (before_step l.inputs) (take l.literal-index l.clause)
