use Rattle.std.proofs.Common.{◌≡◌, ℕ, false, get_or, take}
use Rattle.std.specs.List.{list_any}
use Rattle.clause_check.specs.Clauses.{literal_value}
use Rattle.invariant_check.proofs.read.is_true.Given as goal

abbrev pub invariant-loop-literal : goal.invariant-loop-literal
invariant-loop-literal l = list_any (literal_value (λ (v : ℕ). get_or l.values v false)) (take l.literal-index l.clause)
    ≡ false
