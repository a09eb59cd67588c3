use Rattle.std.proofs.Common.{◌++◌, ◌∷◌, [], ◌∙◌, ℕ, List, ap₂, sym, arith}
use Rattle.std.proofs.lemmas.List.FromFn.{map-range_with_len_more}
use Rattle.lab_lint.specs.Occurrences.{rule_part}
use Rattle.lab_lint.specs.declared.occurrence.Occurrence.{Occurrence}
use Rattle.lab_lint.proofs.body.all_occurrences.Goals as goal

pub loop-rule-preserved : goal.loop-rule-preserved
loop-rule-preserved c =
    let n = c.loop-rule.rule in
    c.in_ok-push.ensures.ok ∙ ap₂ (λ (xs : List (List Occurrence)) (x : List Occurrence). xs ++ x ∷ []) c.loop-rule.invariant c.in_ok-occurrences.ensures
    ∙ sym (map-range_with_len_more (λ (rule : ℕ). (rule_part c.args.design.now rule).all) 0 n n (omega arith))
