use Rattle.std.proofs.Common.{Err, refl, subst, sym}
use Rattle.std.proofs.lemmas.Result.{err_from_is_err_and}
use Rattle.koika_check.specs.inner.Checking.{Takes, arrays_of}
use Rattle.koika_check.specs.inner.Outcomes.{Tells}
use Rattle.koika_check.specs.Types.{as_bits}
use Rattle.koika_check.specs.Selections.{index_of, item_at}
use Rattle.koika_check.specs.inner.Shapes.{part_of, type_if, type_of_shape}
use Rattle.koika_check.proofs.PartTypes.{array-within, part-item, part-items}
use Rattle.koika_check.proofs.Telling.{one-err, one-ok}
use Rattle.koika_check.proofs.checker.Checker.index.Goals as goal

pub array-array-requires : goal.array-array-requires
array-array-requires c = array-within c.args.self.now c.args.whole c.in-Some.number c.in-Some.ensures.some c.requires.whole

pub returns-in_err-refuse-in-Some : goal.returns-in_err-refuse-in-Some
returns-in_err-refuse-in-Some c =
    let p = err_from_is_err_and c.from_residual.result c.from_residual.ensures.1 in
    let items = part-items c.args.self.now c.requires.checker c.args.whole c.in-Some.number c.array-array.result c.in-Some.ensures.some c.requires.whole c.array-array.ensures in
    rw (p.1, p.2)
    (subst (λ o. Tells (Takes c.args.self.now) (index_of c.args.self.now.design (part_of (arrays_of c.args.self.now) c.args.whole) c.args.index o (as_bits (type_if (arrays_of c.args.self.now) c.args.whole.of))) (Err c.in_err-refuse-in-Some.field-0.0)) (sym items)
    (one-err _ (Takes c.args.self.now) c.in_range.result _ _ _ c.in_range.ensures c.in_err-refuse-in-Some.ensures))

pub item_at-requires-clause-element : goal.item_at-requires-clause-element
item_at-requires-clause-element c = part-item c.args.self.now c.requires.checker c.args.whole c.in-Some.number c.array-array.result c.in-Some.ensures.some c.requires.whole c.array-array.ensures

pub returns-in-None : goal.returns-in-None
returns-in-None c = rw (c.in-None.ensures.none (arrays_of c.args.self.now) refl) (c.bit.ensures c.args.self.now c.requires.checker c.requires.whole)

pub returns-in_ok-refuse-in-Some : goal.returns-in_ok-refuse-in-Some
returns-in_ok-refuse-in-Some c =
    let items = part-items c.args.self.now c.requires.checker c.args.whole c.in-Some.number c.array-array.result c.in-Some.ensures.some c.requires.whole c.array-array.ensures in
    let holds = one-ok c.in_range.result _ _ (item_at c.args.self.now.design c.args.index.value (type_of_shape (arrays_of c.args.self.now) c.array-array.result.element)) c.in_range.ensures c.in_ok-refuse-in-Some.ensures in
    rw (items, holds) c.item_at.ensures
