use Rattle.std.proofs.Common.{[], List, None, length, arith, sym, subst}
use Rattle.std.specs.List.{All}
use Rattle.koika_check.specs.Typing.{HasType}
use Rattle.koika_check.specs.inner.BitWeights.{IsTypedAmong}
use Rattle.koika_check.specs.declared.checked.CheckedFunction.{CheckedFunction}
use Rattle.koika_check.specs.declared.checked.CheckedRule.{CheckedRule}
use Rattle.koika_check.proofs.TypedAmong.{rule-among}
use Rattle.koika_check.proofs.bit_weight.squares_of_rules.Goals as goal

pub squares-requires : goal.squares-requires
squares-requires c =
    let d = c.args.design.now in
    let r = c.rule-item.result in
    let IsUnit : CheckedRule → Type 0 = λ s. HasType d (length d.functions) s.body [] None in
    let all : All IsUnit c.as_slice-rule-items.result.now = subst (All IsUnit) (sym c.as_slice-rule-items.ensures) c.requires.rules in
    let has = subst IsUnit (sym c.rule-item.is) (all c.loop-rule.rule-index r (omega arith)) in
    subst (λ (fs : List CheckedFunction). IsTypedAmong fs r.body) (sym c.as_slice.ensures) (rule-among d r.body c.requires has)
