use Rattle.std.proofs.Common.{◌≡◌, ◌+◌, ◌≤◌, sum_by, subst, sym, ap, ap₂, ◌∙◌, arith}
use Rattle.kw_bits.specs.Operators.{concat}
use Rattle.koika_types.specs.Values.{packed}
use Rattle.koika_types.specs.inner.Values.{AreParts, IsValue}
use Rattle.koika_types.proofs.Counts.{count, count-Fields, count-Items, count-part}
use Rattle.koika_types.proofs.Parts.{part-IsValue, parts-some, parts_of_fields, parts_of_items, stacked-next, stacked-one, stacked-room, stacked_up-next, stacked_up-one, stacked_up-room}
use Rattle.koika_types.proofs.Stacks.{wide}
use Rattle.koika_types.proofs.packing.+bits.Goals as goal

pub bits_of-from_the_top-requires : goal.bits_of-from_the_top-requires
bits_of-from_the_top-requires t c =
    let whole : count c.args.value.now ≡ sum_by count c.as_slice.result.now + 1 =
    ap count c.in-Fields.is ∙ count-Fields c.in-Fields.field-0 c.in-Fields.values ∙ ap (λ vs. sum_by count vs + 1) (sym c.as_slice.ensures) in
    (omega (arith, c.decreases, whole), subst AreParts (sym c.as_slice.ensures) (parts_of_fields c.in-Fields.field-0 c.in-Fields.values (subst IsValue c.in-Fields.is c.requires)))

pub bits_of-from_the_bottom-requires : goal.bits_of-from_the_bottom-requires
bits_of-from_the_bottom-requires t c =
    let whole : count c.args.value.now ≡ sum_by count c.as_slice-in-Items.result.now + 1 =
    ap count c.in-Items.is ∙ count-Items c.in-Items.values ∙ ap (λ vs. sum_by count vs + 1) (sym c.as_slice-in-Items.ensures) in
    (omega (arith, c.decreases, whole), subst AreParts (sym c.as_slice-in-Items.ensures) (parts_of_items c.in-Items.values (subst IsValue c.in-Items.is c.requires)))

pub from_the_bottom-bits_of-bits-requires : goal.from_the_bottom-bits_of-bits-requires
from_the_bottom-bits_of-bits-requires t c =
    let less = subst (λ v. count v ≤ sum_by count c.args.values.now) (sym c.index-values-0.is) (count-part c.args.values.now 0 c.index-values-0.result (parts-some _ c.requires)) in
    (omega (arith, c.decreases, less), subst IsValue (sym c.index-values-0.is) (part-IsValue c.args.values.now 0 c.index-values-0.result c.requires (parts-some _ c.requires)))

pub from_the_bottom-loop-index-init : goal.from_the_bottom-loop-index-init
from_the_bottom-loop-index-init t c =
    c.bits_of-bits.ensures ∙ ap packed c.index-values-0.is ∙ sym (stacked_up-one c.args.values.now c.index-values-0.result (parts-some _ c.requires))

pub from_the_bottom-bits_of-requires : goal.from_the_bottom-bits_of-requires
from_the_bottom-bits_of-requires t c =
    let less = subst (λ v. count v ≤ sum_by count c.args.values.now) (sym c.index-values-index.is) (count-part c.args.values.now c.loop-index.index c.index-values-index.result c.loop-index-test.true) in
    (omega (arith, c.decreases, less), subst IsValue (sym c.index-values-index.is) (part-IsValue c.args.values.now c.loop-index.index c.index-values-index.result c.requires c.loop-index-test.true))

pub from_the_bottom-concat-bits-requires : goal.from_the_bottom-concat-bits-requires
from_the_bottom-concat-bits-requires t c =
    let same = ap wide (c.bits_of.ensures ∙ ap packed c.index-values-index.is) in
    omega (arith, same, stacked_up-room c.args.values.now c.loop-index.index c.index-values-index.result c.loop-index.bits c.requires c.loop-index-test.true c.loop-index.invariant)

pub from_the_bottom-loop-index-preserved : goal.from_the_bottom-loop-index-preserved
from_the_bottom-loop-index-preserved t c =
    c.concat-bits.ensures ∙ ap₂ concat (c.bits_of.ensures ∙ ap packed c.index-values-index.is) c.loop-index.invariant
    ∙ sym (stacked_up-next c.args.values.now c.loop-index.index c.index-values-index.result c.loop-index-test.true)

pub from_the_top-bits_of-bits-requires : goal.from_the_top-bits_of-bits-requires
from_the_top-bits_of-bits-requires t c =
    let less = subst (λ v. count v ≤ sum_by count c.args.values.now) (sym c.index-values-0.is) (count-part c.args.values.now 0 c.index-values-0.result (parts-some _ c.requires)) in
    (omega (arith, c.decreases, less), subst IsValue (sym c.index-values-0.is) (part-IsValue c.args.values.now 0 c.index-values-0.result c.requires (parts-some _ c.requires)))

pub from_the_top-loop-index-init : goal.from_the_top-loop-index-init
from_the_top-loop-index-init t c =
    c.bits_of-bits.ensures ∙ ap packed c.index-values-0.is ∙ sym (stacked-one c.args.values.now c.index-values-0.result (parts-some _ c.requires))

pub from_the_top-bits_of-requires : goal.from_the_top-bits_of-requires
from_the_top-bits_of-requires t c =
    let less = subst (λ v. count v ≤ sum_by count c.args.values.now) (sym c.index-values-index.is) (count-part c.args.values.now c.loop-index.index c.index-values-index.result c.loop-index-test.true) in
    (omega (arith, c.decreases, less), subst IsValue (sym c.index-values-index.is) (part-IsValue c.args.values.now c.loop-index.index c.index-values-index.result c.requires c.loop-index-test.true))

pub from_the_top-concat-bits-requires : goal.from_the_top-concat-bits-requires
from_the_top-concat-bits-requires t c =
    let same = ap wide (c.bits_of.ensures ∙ ap packed c.index-values-index.is) in
    omega (arith, same, stacked-room c.args.values.now c.loop-index.index c.index-values-index.result c.loop-index.bits c.requires c.loop-index-test.true c.loop-index.invariant)

pub from_the_top-loop-index-preserved : goal.from_the_top-loop-index-preserved
from_the_top-loop-index-preserved t c =
    c.concat-bits.ensures ∙ ap₂ concat c.loop-index.invariant (c.bits_of.ensures ∙ ap packed c.index-values-index.is)
    ∙ sym (stacked-next c.args.values.now c.loop-index.index c.index-values-index.result c.loop-index-test.true)
