use Rattle.std.proofs.Common.{map, Some, ap, sym, subst, ◌∙◌}
use Rattle.std.proofs.lemmas.List.{take_all}
use Rattle.koika_types.specs.Values.{packed, stacked, stacked_up}
use Rattle.koika_types.specs.declared.value.Value.{Value}
use Rattle.koika_types.proofs.Layers.{packed-Fields, packed-Items}
use Rattle.koika_check.specs.Typing.{IsOf}
use Rattle.koika_lower.specs.inner.Packing.{AreParts, so_far}
use Rattle.koika_lower.proofs.PackedParts.{high-next, low-next, not-none, part-bits, parts_of_fields, parts_of_items, stacked-all, stacked_up-all}
use Rattle.koika_lower.proofs.packing.+bits.Goals as goal

pub bits_of-returns-in-Fields : goal.bits_of-returns-in-Fields
bits_of-returns-in-Fields t c d u design valid of =
    let are = parts_of_fields d c.in-Fields.field-0 c.in-Fields.values u design valid (subst (λ (v : Value). IsOf d v u) c.in-Fields.is of) in
    c.from_the_top.ensures d _ (subst (AreParts d _) (sym c.as_slice.ensures) are) ∙
    ap Some (ap (λ vs. stacked (map packed vs)) c.as_slice.ensures ∙ sym (packed-Fields c.in-Fields.field-0 c.in-Fields.values) ∙ sym (ap packed c.in-Fields.is))

pub bits_of-returns-in-Items : goal.bits_of-returns-in-Items
bits_of-returns-in-Items t c d u design valid of =
    let are = (parts_of_items d c.in-Items.values u design valid (subst (λ (v : Value). IsOf d v u) c.in-Items.is of)).1 in
    c.from_the_bottom.ensures d _ (subst (AreParts d _) (sym c.as_slice-in-Items.ensures) are) ∙
    ap Some (ap (λ vs. stacked_up (map packed vs)) c.as_slice-in-Items.ensures ∙ sym (packed-Items c.in-Items.values) ∙ sym (ap packed c.in-Items.is))

pub from_the_top-returns-in_err-bits_of : goal.from_the_top-returns-in_err-bits_of
from_the_top-returns-in_err-bits_of t c d types are =
    absurd (not-none c.bits_of.result _ c.in_err-bits_of.was (part-bits d types c.args.values.now c.loop-value.value-index c.value-item.result c.bits_of.result are c.loop-value-test.true c.value-item.is c.bits_of.ensures))

pub from_the_top-returns-in_err-with_low : goal.from_the_top-returns-in_err-with_low
from_the_top-returns-in_err-with_low t c d types are =
    let bits = part-bits d types c.args.values.now c.loop-value.value-index c.value-item.result c.bits_of.result are c.loop-value-test.true c.value-item.is c.bits_of.ensures in
    absurd (not-none c.with_low.result _ c.in_err-with_low.was
    (low-next d types c.args.values.now c.loop-value.value-index c.value-item.result c.loop-value.all c.with_low.result c.in_ok-bits_of.field-0 are c.loop-value-test.true (c.loop-value.invariant d types are)
    (ap so_far (sym c.in_ok-bits_of.was ∙ bits)) c.with_low.ensures))

pub from_the_top-loop-value-preserved : goal.from_the_top-loop-value-preserved
from_the_top-loop-value-preserved t c d types are =
    let bits = part-bits d types c.args.values.now c.loop-value.value-index c.value-item.result c.bits_of.result are c.loop-value-test.true c.value-item.is c.bits_of.ensures in
    ap so_far (sym c.in_ok-with_low.was ∙
    low-next d types c.args.values.now c.loop-value.value-index c.value-item.result c.loop-value.all c.with_low.result c.in_ok-bits_of.field-0 are c.loop-value-test.true (c.loop-value.invariant d types are)
    (ap so_far (sym c.in_ok-bits_of.was ∙ bits)) c.with_low.ensures)

pub from_the_top-returns : goal.from_the_top-returns
from_the_top-returns t c d types are =
    stacked-all d types c.args.values.now c.loop-value.all are
    (c.loop-value.invariant d types are ∙ ap (λ vs. stacked (map packed vs)) (take_all c.loop-value.value-index c.args.values.now c.loop-value-test.false))

pub from_the_bottom-returns-in_err-bits_of : goal.from_the_bottom-returns-in_err-bits_of
from_the_bottom-returns-in_err-bits_of t c d types are =
    absurd (not-none c.bits_of.result _ c.in_err-bits_of.was (part-bits d types c.args.values.now c.loop-value.value-index c.value-item.result c.bits_of.result are c.loop-value-test.true c.value-item.is c.bits_of.ensures))

pub from_the_bottom-returns-in_err-with_high : goal.from_the_bottom-returns-in_err-with_high
from_the_bottom-returns-in_err-with_high t c d types are =
    let bits = part-bits d types c.args.values.now c.loop-value.value-index c.value-item.result c.bits_of.result are c.loop-value-test.true c.value-item.is c.bits_of.ensures in
    absurd (not-none c.with_high.result _ c.in_err-with_high.was
    (high-next d types c.args.values.now c.loop-value.value-index c.value-item.result c.loop-value.all c.with_high.result c.in_ok-bits_of.field-0 are c.loop-value-test.true (c.loop-value.invariant d types are)
    (ap so_far (sym c.in_ok-bits_of.was ∙ bits)) c.with_high.ensures))

pub from_the_bottom-loop-value-preserved : goal.from_the_bottom-loop-value-preserved
from_the_bottom-loop-value-preserved t c d types are =
    let bits = part-bits d types c.args.values.now c.loop-value.value-index c.value-item.result c.bits_of.result are c.loop-value-test.true c.value-item.is c.bits_of.ensures in
    ap so_far (sym c.in_ok-with_high.was ∙
    high-next d types c.args.values.now c.loop-value.value-index c.value-item.result c.loop-value.all c.with_high.result c.in_ok-bits_of.field-0 are c.loop-value-test.true (c.loop-value.invariant d types are)
    (ap so_far (sym c.in_ok-bits_of.was ∙ bits)) c.with_high.ensures)

pub from_the_bottom-returns : goal.from_the_bottom-returns
from_the_bottom-returns t c d types are =
    stacked_up-all d types c.args.values.now c.loop-value.all are
    (c.loop-value.invariant d types are ∙ ap (λ vs. stacked_up (map packed vs)) (take_all c.loop-value.value-index c.args.values.now c.loop-value-test.false))
