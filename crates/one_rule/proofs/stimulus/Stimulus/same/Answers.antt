use Rattle.std.proofs.Common.{◌≡◌, ◌≤◌, length, refl, subst, arith, rules}
use Rattle.std.proofs.lemmas.List.{length-map}
use Rattle.one_rule.specs.Stimulus.{InputVectors, inputs_by}
use Rattle.one_rule.proofs.Cycles.{same_in_every_cycle}
use Rattle.one_rule.proofs.stimulus.Stimulus.same.Goals as goal

pub returns : goal.returns
returns c =
    let most = c.max-before-end.result in
    let few = subst (λ (s : InputVectors). length s.cycles ≤ most) c.self.view_is (omega (arith, length-map c.self.inside.lines.items (inputs_by c.self.inside.widths.items))) in
    let few' = subst (λ (s : InputVectors). length s.cycles ≤ most) c.other.view_is (omega (arith, length-map c.other.inside.lines.items (inputs_by c.other.inside.widths.items))) in
    let widths : c.args.self.now.widths ≡ c.args.other.now.widths = search rules in
    (λ _. record { widths = widths; inputs = same_in_every_cycle c.args.self.now c.args.other.now most widths few few' (λ k below. c.loop-before.invariant k (omega arith)) }, λ _. refl)
