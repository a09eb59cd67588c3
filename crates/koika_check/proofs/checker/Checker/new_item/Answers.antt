use Rattle.std.proofs.Common.{Err, Some, [], ◌∷◌, refl, subst, sym}
use Rattle.std.proofs.lemmas.Result.{err_from_is_err_and}
use Rattle.koika_check.specs.inner.Checking.{Takes, arrays_of}
use Rattle.koika_check.specs.Outcomes.{◌>>=◌, found, where_all}
use Rattle.koika_check.specs.inner.Outcomes.{Tells}
use Rattle.koika_check.specs.Types.{agrees, wrong_type}
use Rattle.koika_check.specs.Selections.{in_range, item_at}
use Rattle.koika_check.specs.inner.Shapes.{part_of, type_of_shape}
use Rattle.koika_check.proofs.PartTypes.{array-within, part-item, part-items, part-shape}
use Rattle.koika_check.proofs.Telling.{two-err, two-ok}
use Rattle.koika_check.proofs.checker.Checker.new_item.Goals as goal

pub array-array-requires : goal.array-array-requires
array-array-requires c = array-within c.args.self.now c.args.whole c.in-Some.number c.in-Some.ensures.some c.requires.whole

pub returns-in_err-refuse-in-Some : goal.returns-in_err-refuse-in-Some
returns-in_err-refuse-in-Some c =
    let p = err_from_is_err_and c.from_residual.result c.from_residual.ensures.1 in
    let items = part-items c.args.self.now c.requires.checker c.args.whole c.in-Some.number c.array-array.result c.in-Some.ensures.some c.requires.whole c.array-array.ensures in
    let item = part-item c.args.self.now c.requires.checker c.args.whole c.in-Some.number c.array-array.result c.in-Some.ensures.some c.requires.whole c.array-array.ensures in
    let whole = part_of (arrays_of c.args.self.now) c.args.whole in
    let new = part_of (arrays_of c.args.self.now) c.args.new in
    rw (p.1, p.2)
    (subst
    (λ o. Tells (Takes c.args.self.now) (found o (wrong_type whole) >>= λ items. where_all (in_range c.args.index items.length ∷ agrees (Some items.of) new ∷ []) (item_at c.args.self.now.design c.args.index.value items.of)) (Err c.in_err-refuse-in-Some.field-0.0)) (sym items)
    (two-err _ (Takes c.args.self.now) c.in_range.result c.agrees-wrong.result _ _ c.least.result _ _ c.least.ensures c.in_range.ensures
    (c.agrees-wrong.ensures (arrays_of c.args.self.now) c.requires.checker.shapes.arrays item.known (part-shape c.args.self.now c.args.new.of c.requires.new)) c.in_err-refuse-in-Some.ensures))

pub item_at-requires-clause-element : goal.item_at-requires-clause-element
item_at-requires-clause-element c = part-item c.args.self.now c.requires.checker c.args.whole c.in-Some.number c.array-array.result c.in-Some.ensures.some c.requires.whole c.array-array.ensures

pub returns-in-None : goal.returns-in-None
returns-in-None c = rw (c.in-None.ensures.none (arrays_of c.args.self.now) refl, c.wrong_type.ensures) refl

pub returns-in_ok-refuse-in-Some : goal.returns-in_ok-refuse-in-Some
returns-in_ok-refuse-in-Some c =
    let items = part-items c.args.self.now c.requires.checker c.args.whole c.in-Some.number c.array-array.result c.in-Some.ensures.some c.requires.whole c.array-array.ensures in
    let item = part-item c.args.self.now c.requires.checker c.args.whole c.in-Some.number c.array-array.result c.in-Some.ensures.some c.requires.whole c.array-array.ensures in
    let holds = two-ok c.in_range.result c.agrees-wrong.result _ _ c.least.result _ (item_at c.args.self.now.design c.args.index.value (type_of_shape (arrays_of c.args.self.now) c.array-array.result.element)) c.least.ensures c.in_range.ensures
    (c.agrees-wrong.ensures (arrays_of c.args.self.now) c.requires.checker.shapes.arrays item.known (part-shape c.args.self.now c.args.new.of c.requires.new)) c.in_ok-refuse-in-Some.ensures in
    rw (items, holds) c.item_at.ensures
