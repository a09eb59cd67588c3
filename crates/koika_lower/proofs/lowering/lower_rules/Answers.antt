use Rattle.std.proofs.Common.{◌≡◌, ◌<◌, None, [], ap, arith, get_or, length, subst, sym, ◌∙◌}
use Rattle.koika_check.specs.Typing.{HasType}
use Rattle.koika_check.specs.declared.checked.CheckedRule.{CheckedRule}
use Rattle.koika_lower.specs.inner.Rules.{IsRule}
use Rattle.koika_lower.proofs.Designs.{rule-is}
use Rattle.koika_lower.proofs.Lists.{pairs-more}
use Rattle.koika_lower.proofs.WellTyped.{rule-typed}
use Rattle.koika_lower.proofs.lowering.lower_rules.Goals as goal

pub lower_expression-requires : goal.lower_expression-requires
lower_expression-requires c =
    let d = c.args.checked.now in
    let r = c.rule-item.result in
    let i = c.loop-rule.rule-index in
    let within : i < length d.rules = omega (arith, ap length c.as_slice-rules.ensures) in
    let is : r ≡ get_or d.rules i r = c.rule-item.is ∙ ap (λ rs. get_or rs i r) c.as_slice-rules.ensures in
    rule-typed d c.len.result c.empty.result r.body c.requires c.len.ensures c.empty.ensures
    (subst (λ (x : CheckedRule). HasType d (length d.functions) x.body [] None) (sym is) (c.requires.rules i r within))

pub loop-rule-preserved : goal.loop-rule-preserved
loop-rule-preserved c =
    let d = c.args.checked.now in
    let r = c.rule-item.result in
    let i = c.loop-rule.rule-index in
    let within : i < length d.rules = omega (arith, ap length c.as_slice-rules.ensures) in
    let is : r ≡ get_or d.rules i r = c.rule-item.is ∙ ap (λ rs. get_or rs i r) c.as_slice-rules.ensures in
    pairs-more (IsRule d) d.rules i r c.loop-rule.all c.push.new.self _ within is c.loop-rule.invariant c.in_ok-push.ensures.ok
    (rule-is d c.len.result c.empty.result r c.in_ok-from_slice.field-0 c.in_ok-body.body c.requires c.len.ensures c.empty.ensures
    (subst (λ (x : CheckedRule). HasType d (length d.functions) x.body [] None) (sym is) (c.requires.rules i r within))
    (c.in_ok-from_slice.ensures ∙ c.as_slice.ensures) c.in_ok-body.ensures)
