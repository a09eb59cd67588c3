use Rattle.std.proofs.Common.{◌≡◌, ◌+◌, ◌-◌, ◌*◌, ◌<◌, List, [], replicate, length, subst, sym, ap, ◌∙◌, arith}
use Rattle.kw_bits.proofs.OperatorLaws.{slice-HasWidth}
use Rattle.kw_bits.specs.Laws.{HasWidth}
use Rattle.koika_types.specs.Types.{IsType, total_width, width}
use Rattle.koika_types.specs.Values.{IsOf, Pairwise}
use Rattle.koika_types.specs.declared.ty.Ty.{Ty}
use Rattle.koika_types.specs.declared.ty.Ty.TheVariants.{Struct}
use Rattle.koika_types.specs.declared.declarations.Field.{Field}
use Rattle.koika_types.specs.declared.value.Value.{Value}
use Rattle.koika_types.specs.declared.value.Value.TheVariants as value
use Rattle.koika_types.proofs.Layers.{of-Fields, of-Items, of-Member, of-Number, packed-Fields, packed-Items, packed-Member, packed-Number}
use Rattle.koika_types.proofs.PartsSoFar.{FieldsSoFar, ItemsSoFar, all_fields, all_items, field_fits, item_fits, next_field, next_item, no_fields, no_items, opened, opened-rank, opened-total, opened-type, types_of}
use Rattle.koika_types.proofs.Ranks.{rank}
use Rattle.koika_types.proofs.unpacking.+value.Goals as goal

pub fields_of-loop-field-init : goal.fields_of-loop-field-init
fields_of-loop-field-init t c =
    let d = c.args.types.now in
    let fields = c.as_slice-fields.result.now in
    let bits = c.args.bits in
    subst (λ (vs : List Value). FieldsSoFar d fields bits 0 vs c.width-above.result) (sym c.new-values.ensures)
    (subst (λ above. FieldsSoFar d fields bits 0 [] above) (sym c.width-above.ensures.width) (no_fields d fields bits c.width-above.ensures.bits))

pub fields_of-width_of-width-requires : goal.fields_of-width_of-width-requires
fields_of-width_of-width-requires t c =
    let d = c.args.types.now in
    let fields = c.as_slice-fields.result.now in
    let o = opened d c.args.number c.structs.result.now c.index-structs-number.result fields c.structs.ensures.table c.requires.valid c.structs.ensures.structs c.index-structs-number.is c.as_slice-fields.ensures in
    let lt : c.loop-field.field-index < length fields = omega arith in
    subst (λ (field : Field). IsType d field.ty) (sym c.field-item.is) (opened-type d c.args.number fields o c.loop-field.field-index c.field-item.result lt)

pub fields_of-overflow_sub-above : goal.fields_of-overflow_sub-above
fields_of-overflow_sub-above t c =
    let d = c.args.types.now in
    let fields = c.as_slice-fields.result.now in
    let o = opened d c.args.number c.structs.result.now c.index-structs-number.result fields c.structs.ensures.table c.requires.valid c.structs.ensures.structs c.index-structs-number.is c.as_slice-fields.ensures in
    let lt : c.loop-field.field-index < length fields = omega arith in
    let whole : total_width d fields ≡ c.args.bits.width = opened-total d c.args.number fields o ∙ sym c.requires.width.1 in
    let wide = c.width_of-width.ensures.width ∙ ap (λ (field : Field). width d field.ty) c.field-item.is in
    let fits = field_fits d fields c.args.bits c.loop-field.field-index c.loop-field.values c.loop-field.above c.field-item.result c.loop-field.invariant lt whole in
    omega (arith, wide, fits, c.width_of-width.ensures.valid.0)

pub fields_of-overflow_sub-above-in-loop-field : goal.fields_of-overflow_sub-above-in-loop-field
fields_of-overflow_sub-above-in-loop-field t c =
    let d = c.args.types.now in
    let fields = c.as_slice-fields.result.now in
    let o = opened d c.args.number c.structs.result.now c.index-structs-number.result fields c.structs.ensures.table c.requires.valid c.structs.ensures.structs c.index-structs-number.is c.as_slice-fields.ensures in
    let lt : c.loop-field.field-index < length fields = omega arith in
    let whole : total_width d fields ≡ c.args.bits.width = opened-total d c.args.number fields o ∙ sym c.requires.width.1 in
    let wide = c.width_of-width.ensures.width ∙ ap (λ (field : Field). width d field.ty) c.field-item.is in
    let fits = field_fits d fields c.args.bits c.loop-field.field-index c.loop-field.values c.loop-field.above c.field-item.result c.loop-field.invariant lt whole in
    omega (arith, wide, fits)

pub fields_of-overflow_sub-above-in-loop-field-2 : goal.fields_of-overflow_sub-above-in-loop-field-2
fields_of-overflow_sub-above-in-loop-field-2 t c =
    let d = c.args.types.now in
    let fields = c.as_slice-fields.result.now in
    let o = opened d c.args.number c.structs.result.now c.index-structs-number.result fields c.structs.ensures.table c.requires.valid c.structs.ensures.structs c.index-structs-number.is c.as_slice-fields.ensures in
    let lt : c.loop-field.field-index < length fields = omega arith in
    let whole : total_width d fields ≡ c.args.bits.width = opened-total d c.args.number fields o ∙ sym c.requires.width.1 in
    let wide = c.width_of-width.ensures.width ∙ ap (λ (field : Field). width d field.ty) c.field-item.is in
    let fits = field_fits d fields c.args.bits c.loop-field.field-index c.loop-field.values c.loop-field.above c.field-item.result c.loop-field.invariant lt whole in
    omega (arith, wide, fits)

pub fields_of-value_of-requires : goal.fields_of-value_of-requires
fields_of-value_of-requires t c =
    let d = c.args.types.now in
    let fields = c.as_slice-fields.result.now in
    let i = c.loop-field.field-index in
    let x = c.field-item.result in
    let above = c.loop-field.above in
    let w = c.width_of-width.result in
    let left = c.loop-field.invariant.left in
    let o = opened d c.args.number c.structs.result.now c.index-structs-number.result fields c.structs.ensures.table c.requires.valid c.structs.ensures.structs c.index-structs-number.is c.as_slice-fields.ensures in
    let lt : i < length fields = omega arith in
    let whole : total_width d fields ≡ c.args.bits.width = opened-total d c.args.number fields o ∙ sym c.requires.width.1 in
    let wide = c.width_of-width.ensures.width ∙ ap (λ (field : Field). width d field.ty) c.field-item.is in
    let fits = field_fits d fields c.args.bits i c.loop-field.values above x c.loop-field.invariant lt whole in
    let some = c.width_of-width.ensures.valid.0 in
    let falls : rank d x.ty < rank d (Struct c.args.number) = subst (λ (field : Field). rank d field.ty < rank d (Struct c.args.number)) (sym c.field-item.is) (opened-rank d c.args.number fields o i x lt) in
    let valid = subst (λ (field : Field). IsType d field.ty) (sym c.field-item.is) (opened-type d c.args.number fields o i x lt) in
    let part = slice-HasWidth c.args.bits (above - 1) (above - w) c.requires.width.0 (omega (arith, wide, fits, some)) (omega (arith, wide, fits, some, left)) in
    let taken : above - 1 - (above - w) + 1 ≡ width d x.ty = omega (arith, wide, fits, some, c.width_of-width.ensures.width) in
    (omega (arith, c.decreases, falls), (valid, subst (λ b. HasWidth b (width d x.ty)) (sym c.slice-part.ensures) (part.0, part.1 ∙ taken)))

pub fields_of-loop-field-preserved : goal.fields_of-loop-field-preserved
fields_of-loop-field-preserved t c =
    let d = c.args.types.now in
    let fields = c.as_slice-fields.result.now in
    let i = c.loop-field.field-index in
    let x = c.field-item.result in
    let above = c.loop-field.above in
    let w = c.width_of-width.result in
    let v = c.in_ok-value_of.field-0 in
    let o = opened d c.args.number c.structs.result.now c.index-structs-number.result fields c.structs.ensures.table c.requires.valid c.structs.ensures.structs c.index-structs-number.is c.as_slice-fields.ensures in
    let lt : i < length fields = omega arith in
    let whole : total_width d fields ≡ c.args.bits.width = opened-total d c.args.number fields o ∙ sym c.requires.width.1 in
    let wide = c.width_of-width.ensures.width ∙ ap (λ (field : Field). width d field.ty) c.field-item.is in
    let fits = field_fits d fields c.args.bits i c.loop-field.values above x c.loop-field.invariant lt whole in
    let of = subst (λ (field : Field). IsOf d v field.ty) c.field-item.is c.in_ok-value_of.ensures.0 in
    subst (λ (vs : List Value). FieldsSoFar d fields c.args.bits (i + 1) vs (above - w)) (sym c.in_ok-push.ensures.ok)
    (next_field d fields c.args.bits i c.loop-field.values above w x v c.loop-field.invariant lt wide c.width_of-width.ensures.valid.0 (omega (arith, wide, fits)) of (c.in_ok-value_of.ensures.1 ∙ c.slice-part.ensures))

pub fields_of-returns : goal.fields_of-returns
fields_of-returns t c =
    let d = c.args.types.now in
    let fields = c.as_slice-fields.result.now in
    let o = opened d c.args.number c.structs.result.now c.index-structs-number.result fields c.structs.ensures.table c.requires.valid c.structs.ensures.structs c.index-structs-number.is c.as_slice-fields.ensures in
    let whole : total_width d fields ≡ c.args.bits.width = opened-total d c.args.number fields o ∙ sym c.requires.width.1 in
    let at_end : c.loop-field.field-index ≡ length fields = omega arith in
    let all = all_fields d fields c.args.bits c.loop-field.values c.loop-field.above (subst (λ i. FieldsSoFar d fields c.args.bits i c.loop-field.values c.loop-field.above) at_end c.loop-field.invariant) whole in
    ((o.decl, o.is, subst (λ (fs : List Field). Pairwise (IsOf d) c.loop-field.values (types_of fs)) o.same all.0), all.1)

pub items_of-loop-index-init : goal.items_of-loop-index-init
items_of-loop-index-init t c =
    subst (λ (vs : List Value). ItemsSoFar c.args.types.now c.args.item.now c.args.bits c.width_of-width.result 0 vs) (sym c.new-values.ensures) (no_items c.args.types.now c.args.item.now c.args.bits c.width_of-width.result)

pub items_of-value_of-requires : goal.items_of-value_of-requires
items_of-value_of-requires t c =
    let d = c.args.types.now in
    let item = c.args.item.now in
    let w = c.width_of-width.result in
    let lowest = c.loop-index.index * w in
    let wide : w ≡ width d item = c.width_of-width.ensures.width in
    let some = c.width_of-width.ensures.valid.0 in
    let fits = item_fits c.args.bits.width w (width d item) c.loop-index.index c.args.length c.requires.width.1 wide c.loop-index-test.true in
    let part = slice-HasWidth c.args.bits (lowest + w - 1) lowest c.requires.width.0 (omega (arith, some)) (omega (arith, fits, some)) in
    let taken : lowest + w - 1 - lowest + 1 ≡ width d item = omega (arith, wide, some) in
    (omega (arith, c.decreases), (c.requires.valid, subst (λ b. HasWidth b (width d item)) (sym c.slice-part.ensures) (part.0, part.1 ∙ taken)))

pub items_of-loop-index-preserved : goal.items_of-loop-index-preserved
items_of-loop-index-preserved t c =
    let d = c.args.types.now in
    let w = c.width_of-width.result in
    let i = c.loop-index.index in
    let v = c.in_ok-value_of.field-0 in
    subst (λ (vs : List Value). ItemsSoFar d c.args.item.now c.args.bits w (i + 1) vs) (sym c.in_ok-push.ensures.ok)
    (next_item d c.args.item.now c.args.bits w i c.loop-index.values v c.loop-index.invariant c.width_of-width.ensures.valid.0 c.in_ok-value_of.ensures.0 (c.in_ok-value_of.ensures.1 ∙ c.slice-part.ensures))

pub items_of-returns : goal.items_of-returns
items_of-returns t c =
    let d = c.args.types.now in
    let item = c.args.item.now in
    let w = c.width_of-width.result in
    let whole : w * c.args.length ≡ c.args.bits.width = ap (λ k. k * c.args.length) c.width_of-width.ensures.width ∙ sym c.requires.width.1 in
    let at_end : c.loop-index.index ≡ c.args.length = omega arith in
    all_items d item c.args.bits w c.args.length c.loop-index.values c.requires.width.0 whole
    (subst (λ i. ItemsSoFar d item c.args.bits w i c.loop-index.values) at_end c.loop-index.invariant)

pub value_of-returns-in-Bits : goal.value_of-returns-in-Bits
value_of-returns-in-Bits t c =
    let d = c.args.types.now in
    let fits = subst (λ (ty : Ty). HasWidth c.args.bits (width d ty)) c.in-Bits.is c.requires.width in
    (subst (λ (ty : Ty). IsOf d (value.Number c.args.bits) ty) (sym c.in-Bits.is) (of-Number d c.args.bits c.in-Bits.field-0 fits), packed-Number c.args.bits)

pub value_of-returns-in-Enum : goal.value_of-returns-in-Enum
value_of-returns-in-Enum t c =
    let d = c.args.types.now in
    let fits = subst (λ (ty : Ty). HasWidth c.args.bits (width d ty)) c.in-Enum.is c.requires.width in
    (subst (λ (ty : Ty). IsOf d (value.Member c.in-Enum.number c.args.bits) ty) (sym c.in-Enum.is) (of-Member d c.in-Enum.number c.args.bits fits), packed-Member c.in-Enum.number c.args.bits)

pub value_of-returns-in_ok-values-in-Struct : goal.value_of-returns-in_ok-values-in-Struct
value_of-returns-in_ok-values-in-Struct t c =
    let d = c.args.types.now in
    let n = c.in-Struct.number in
    let vs = c.in_ok-values-in-Struct.values in
    (subst (λ (ty : Ty). IsOf d (value.Fields n vs) ty) (sym c.in-Struct.is) (of-Fields d n vs c.in_ok-values-in-Struct.ensures.0), packed-Fields n vs ∙ c.in_ok-values-in-Struct.ensures.1)

pub value_of-returns-in_ok-values-in-Array : goal.value_of-returns-in_ok-values-in-Array
value_of-returns-in_ok-values-in-Array t c =
    let d = c.args.types.now in
    let vs = c.in_ok-values-in-Array.values in
    let each = subst (λ (item : Ty). Pairwise (IsOf d) vs (replicate c.in-Array.length item)) c.deref.ensures c.in_ok-values-in-Array.ensures.0 in
    (subst (λ (ty : Ty). IsOf d (value.Items vs) ty) (sym c.in-Array.is) (of-Items d _ c.in-Array.item.value c.in-Array.length vs each), packed-Items vs ∙ c.in_ok-values-in-Array.ensures.1)
