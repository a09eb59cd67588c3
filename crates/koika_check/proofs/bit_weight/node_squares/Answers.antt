use Rattle.std.proofs.Common.{◌≡◌, [], List, None, Some, length, slice_get, refl, ap, sym, subst, ◌∙◌}
use Rattle.std.specs.Option.{option_map}
use Rattle.std.proofs.lemmas.Option.{slice_get-map, slice_get_read}
use Rattle.koika_check.specs.BitWeights.{bodies_after, rule_squares, squares, squares_if}
use Rattle.koika_check.specs.Typing.{HasType}
use Rattle.koika_check.specs.inner.BitWeights.{IsTypedAmong, cap}
use Rattle.koika_check.specs.declared.checked.CheckedFunction.{CheckedFunction}
use Rattle.koika_check.specs.declared.checked.CheckedRule.{CheckedRule}
use Rattle.koika_check.proofs.TypedAmong.{rule-among}
use Rattle.koika_check.proofs.bit_weight.node_squares.Goals as goal

pub squares-requires : goal.squares-requires
squares-requires c =
    let d = c.args.design.now in
    let r = c.index-rule.result.now in
    let has = subst (λ (s : CheckedRule). HasType d (length d.functions) s.body [] None) (sym c.index-rule.ensures) (c.requires.design.rules c.args.node.now.rule r c.requires.rule) in
    subst (λ (fs : List CheckedFunction). IsTypedAmong fs r.body) (sym c.as_slice.ensures) (rule-among d r.body c.requires.design has)

pub returns : goal.returns
returns c =
    let d = c.args.design.now in
    let number = c.args.node.now.rule in
    let r = c.index-rule.result.now in
    let at : slice_get d.rules number ≡ Some r = slice_get_read d.rules (length d.rules) number r refl c.requires.rule c.index-rule.ensures in
    c.squares.ensures ∙ ap (λ (fs : List CheckedFunction). cap (squares (bodies_after [] fs) r.body)) c.as_slice.ensures
    ∙ ap (λ o. cap (squares_if o)) (sym (slice_get-map (rule_squares d) d.rules number ∙ ap (option_map (rule_squares d)) at))
