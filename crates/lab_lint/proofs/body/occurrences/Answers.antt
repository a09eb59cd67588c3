use Rattle.std.proofs.Common.{◌≡◌, ◌≤◌, ◌∙◌, List, Some, None, length, ap, subst, sym}
use Rattle.std.specs.Prelude.{IfOk, slice_get}
use Rattle.std.proofs.lemmas.Option.{slice_get_past}
use Rattle.koika_check.specs.declared.checked.CheckedRule.{CheckedRule}
use Rattle.koika_lower.proofs.Bodies.{item-at}
use Rattle.lab_lint.specs.Occurrences.{Part}
use Rattle.lab_lint.proofs.Bodies.{rule-none, rule-some}
use Rattle.lab_lint.proofs.body.occurrences.Goals as goal

pub returns-in-Some : goal.returns-in-Some
returns-in-Some c =
    let d = c.args.design.now in
    let r = c.in-Some.rule.now in
    let at : slice_get d.rules c.args.rule ≡ Some r = item-at d.rules c.as_slice.result.now c.args.rule r c.as_slice.ensures c.in-Some.ensures.lookup.3.0 c.in-Some.ensures.lookup.1 in
    subst (λ (p : Part). IfOk c.body_occurrences.result (λ all. all ≡ p.all)) (sym (rule-some d c.args.rule r at)) c.body_occurrences.ensures

pub returns-in-None : goal.returns-in-None
returns-in-None c =
    let d = c.args.design.now in
    let none : slice_get d.rules c.args.rule ≡ None = slice_get_past d.rules c.args.rule (subst (λ (rs : List CheckedRule). length rs ≤ c.args.rule) c.as_slice.ensures c.in-None.ensures.lookup.3) in
    c.new.ensures ∙ ap (λ (p : Part). p.all) (sym (rule-none d c.args.rule none))
