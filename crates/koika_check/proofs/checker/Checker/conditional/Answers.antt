use Rattle.std.proofs.Common.{◌∷◌, [], ◌++◌, ap, map, refl, subst, sym, ◌∙◌}
use Rattle.std.proofs.lemmas.List.Elements.{All-weaker}
use Rattle.koika_check.specs.inner.Checking.{AreTyped, IsPart, IsTypeOrUnit, arrays_of, of_first, scope_of, typing_of}
use Rattle.koika_check.specs.Composites.{type_of_first}
use Rattle.koika_check.specs.Constructs.{ArmTyping}
use Rattle.koika_check.specs.inner.Shapes.{IsShapeIf, part_of}
use Rattle.koika_check.specs.declared.agreement.Part.{Part}
use Rattle.koika_check.specs.declared.checker.Typings.{Typings}
use Rattle.koika_check.proofs.Choices.{first-known, last-part, with-last}
use Rattle.koika_check.proofs.PartTypes.{part-shape}
use Rattle.koika_check.proofs.PartsInOrder.{and_one, typed-push}
use Rattle.koika_check.proofs.checker.Checker.conditional.Goals as goal

pub returns-in_ok-push-in-Some : goal.returns-in_ok-push-in-Some
returns-in_ok-push-in-Some c xs ys arms last =
    let d = c.args.self.now in
    let arrays = arrays_of d in
    let one = c.in-Some.last in
    let bodies = c.push.new.typings in
    let of = c.type_of_first-of.result in
    let part = last-part d c.args.last one ys last c.in-Some.is in
    let all : AreTyped d (and_one c.args.arms.bodies one) (map (λ (x : ArmTyping). x.body) xs ++ typing_of d one ∷ []) =
    typed-push (scope_of d) d c.args.arms.bodies (map (λ (x : ArmTyping). x.body) xs) one (typing_of d one) arms.bodies (record { scope_is = refl; part = refl; type = part; typed = refl }) in
    let many = subst (λ (b : Typings). AreTyped d b (map (λ (x : ArmTyping). x.body) xs ++ typing_of d one ∷ [])) (sym c.in_ok-push-in-Some.ensures) all in
    let first = c.type_of_first-of.ensures.first ∙ ap of_first c.as_slice.ensures in
    with-last d c.args.arms bodies of c.unwrap_or-place.result xs ys c.args.last one c.decided-in-Some.result arms last c.in-Some.is many
    (c.type_of_first-of.ensures.of arrays ∙ ap (λ ps. type_of_first (map (part_of arrays) ps)) c.as_slice.ensures) first c.unwrap_or-place.ensures
    (c.decided-in-Some.ensures arrays c.requires.shapes.arrays (part-shape d of (subst (IsTypeOrUnit d) (sym first) (first-known d bodies.parts many.types)))
    (All-weaker (IsPart d) (λ (q : Part). IsShapeIf arrays q.of) (λ q h. part-shape d q.of h) c.args.arms.conditions.parts arms.conditions.types)
    (All-weaker (IsPart d) (λ (q : Part). IsShapeIf arrays q.of) (λ q h. part-shape d q.of h) bodies.parts many.types))
