use Rattle.std.proofs.Common.{◌≡◌, ◌*◌, ◌≤◌, Some, ap, length, map, subst, sym, ◌∙◌}
use Rattle.std.proofs.lemmas.List.{length-map}
use Rattle.std.proofs.lemmas.List.Elements.{All-weaker}
use Rattle.std.proofs.lemmas.Result.{err_from_is_err_and}
use Rattle.koika_check.specs.inner.Checking.{IsPart, arrays_of}
use Rattle.koika_check.specs.Outcomes.{Gives, unless}
use Rattle.koika_check.specs.inner.Shapes.{IsShapeIf, part_of, type_of_shape}
use Rattle.koika_check.specs.Types.{array, is_width, part}
use Rattle.koika_check.specs.declared.agreement.Part.{Part}
use Rattle.koika_check.proofs.Checkers.{array-width, is-width}
use Rattle.koika_check.proofs.Compositions.{array-made, items-condition, items-few}
use Rattle.koika_check.proofs.PartTypes.{part-shape}
use Rattle.koika_check.proofs.Telling.{holds-true, passes-ok, smaller-both, three-is}
use Rattle.koika_check.proofs.Turns.{ends-passes, ends-same}
use Rattle.koika_check.proofs.checker.Checker.array_of_items.Goals as goal

pub returns-in_err-refuse : goal.returns-in_err-refuse
returns-in_err-refuse c =
    let p = err_from_is_err_and c.from_residual.result c.from_residual.ensures.1 in
    let arrays = arrays_of c.args.self.now in
    let item = type_of_shape arrays c.args.element in
    let parts = map (part_of arrays) c.args.parts.now in
    let whole = part (Some (array (length parts) item)) c.args.place in
    let is = three-is c.none_is_unit.result c.all_agree.result c.unless-fits.result _ _ _ c.least-items.result c.least.result whole c.least.ensures c.least-items.ensures (c.none_is_unit.ensures arrays)
    (c.all_agree.ensures arrays c.requires.checker.shapes.arrays c.requires.element.known (All-weaker (IsPart c.args.self.now) (λ (q : Part). IsShapeIf arrays q.of) (λ q h. part-shape c.args.self.now q.of h) c.args.parts.now c.requires.each))
    (items-condition c.args.self.now.design item c.args.place parts (length c.args.parts.now) c.width.result c.min-length.result c.is_width.result c.unless-fits.result (length-map c.args.parts.now (part_of arrays)) c.width.ensures c.min-length.ensures
    (subst (λ n. 1 ≤ n) (sym c.width.ensures) c.requires.element.width.some) c.is_width.ensures c.unless-fits.ensures) in
    rw (p.1, p.2) (ends-same _ (unless c.least.result whole) _ is (ends-passes _ c.least.result whole _ c.in_err-refuse.ensures))

pub returns : goal.returns
returns c =
    let arrays = arrays_of c.args.self.now in
    let item = type_of_shape arrays c.args.element in
    let parts = map (part_of arrays) c.args.parts.now in
    let whole = part (Some (array (length parts) item)) c.args.place in
    let some = subst (λ n. 1 ≤ n) (sym c.width.ensures) c.requires.element.width.some in
    let is = three-is c.none_is_unit.result c.all_agree.result c.unless-fits.result _ _ _ c.least-items.result c.least.result whole c.least.ensures c.least-items.ensures (c.none_is_unit.ensures arrays)
    (c.all_agree.ensures arrays c.requires.checker.shapes.arrays c.requires.element.known (All-weaker (IsPart c.args.self.now) (λ (q : Part). IsShapeIf arrays q.of) (λ q h. part-shape c.args.self.now q.of h) c.args.parts.now c.requires.each))
    (items-condition c.args.self.now.design item c.args.place parts (length c.args.parts.now) c.width.result c.min-length.result c.is_width.result c.unless-fits.result (length-map c.args.parts.now (part_of arrays)) c.width.ensures c.min-length.ensures
    some c.is_width.ensures c.unless-fits.ensures) in
    let none = passes-ok c.least.result _ c.in_ok-refuse.ensures in
    let behind = (smaller-both c.none_is_unit.result c.least-items.result (sym c.least.ensures ∙ none)).1 in
    let last = (smaller-both c.all_agree.result c.unless-fits.result (sym c.least-items.ensures ∙ behind)).1 in
    let fits = sym c.is_width.ensures ∙ holds-true c.is_width.result _ (sym c.unless-fits.ensures ∙ last) in
    let few : c.min-length.result ≡ length parts = c.min-length.ensures ∙ items-few c.width.result (length c.args.parts.now) some (ap (λ l. is_width (c.width.result * l)) (sym c.min-length.ensures) ∙ fits) ∙ sym (length-map c.args.parts.now (part_of arrays)) in
    array-made c.args.self.now c.requires.checker c.array_of.new.self c.in_ok-array_of.ensures.kept _ c.in_ok-array_of.ensures.grows (array-width c.args.self.now.design c.min-length.result c.width.result item c.width.ensures) (is-width _ fits)
    c.in_ok-array_of.field-0 c.in_ok-array_of.ensures.denotes c.args.place _
    (is ∙ ap (λ d. unless d whole) none ∙ ap (λ n. Gives (part (Some (array n item)) c.args.place)) (sym few))
