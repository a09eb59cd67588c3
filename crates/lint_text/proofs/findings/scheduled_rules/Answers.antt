use Rattle.std.proofs.Common.{◌++◌, ◌∷◌, [], ◌∙◌, Bool, List, ap, ap₂, sym, arith}
use Rattle.std.proofs.lemmas.List.FromFn.{map-range_with_len_more}
use Rattle.typed_core.specs.declared.design.Node.{Node}
use Rattle.lab_lint.specs.Order.{is_scheduled}
use Rattle.lint_text.proofs.findings.scheduled_rules.Goals as goal

pub loop-rule-preserved : goal.loop-rule-preserved
loop-rule-preserved c =
    let d = c.args.design.now in
    let n = c.loop-rule.rule in
    c.in_ok-push.ensures.ok
    ∙ ap₂ (λ (xs : List Bool) (x : Bool). xs ++ x ∷ []) c.loop-rule.invariant (c.is_scheduled.ensures ∙ ap (λ (nodes : List Node). is_scheduled nodes n) c.as_slice.ensures)
    ∙ sym (map-range_with_len_more (is_scheduled d.nodes) 0 n n (omega arith))
