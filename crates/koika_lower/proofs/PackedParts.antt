-- The bits of a value's parts, put together one by one.
use Rattle.std.proofs.Common.{◌≡◌, ℕ, zero, suc, ◌+◌, ◌*◌, ◌<◌, ◌≤◌, List, [], ◌∷◌, length, map, replicate, take, sum_by, get_or, Option, Some, None, arith, refl, ap, ap₂, sym, subst, ◌∙◌}
use Rattle.std.specs.List.{AllByRecursion}
use Rattle.std.proofs.lemmas.List.Sums.{sum_by-cons, sum_by_more_le}
use Rattle.kw_bits.specs.BitVector.{BitVector}
use Rattle.kw_bits.specs.Operators as op
use Rattle.koika_types.specs.Values.{packed, stacked, stacked_up}
use Rattle.koika_types.specs.declared.value.Value.{Value}
use Rattle.koika_types.specs.declared.value.Value.TheVariants as value
use Rattle.koika_types.specs.declared.value.Value.TheOpen.{Value-F}
use Rattle.koika_types.proofs.Parts.{packed_width, stacked-next, stacked_up-next}
use Rattle.koika_types.proofs.Sizes.{sum_by-map}
use Rattle.koika_types.proofs.Stacks.{stacked-width, stacked_up-width, wide}
use Rattle.typed_core.specs.Valid.{IsWidth}
use Rattle.koika_check.specs.Composites.{fields_by, fields_of}
use Rattle.koika_check.specs.Types.{of_base, width_of}
use Rattle.koika_check.specs.Typing.{IsAmong, IsOf, IsType, IsTypedDesign, Pairwise}
use Rattle.koika_check.specs.declared.checked.Checked.{Checked}
use Rattle.koika_check.specs.declared.checked.CheckedField.{CheckedField}
use Rattle.koika_check.specs.declared.checked.Struct.{Struct}
use Rattle.koika_check.specs.declared.typed.BaseType.TheVariants as base
use Rattle.koika_check.specs.declared.typed.ValueType.{ValueType}
use Rattle.koika_lower.specs.inner.Packing.{AreParts, so_far}
use Rattle.koika_check.proofs.TypingLayers.{open-IsOf}
use Rattle.koika_lower.proofs.Values.{all-each, array-width, constant-stands, declared-struct, first_of, item-type, same_types, struct-total, total, total-replicate, types_of}

sum-total : (d : Checked) (types : List ValueType) → sum_by (width_of d) types ≡ total d types
sum-total d [] = refl
sum-total d (t ∷ types) = sum_by-cons (width_of d) t types ∙ ap (λ w. width_of d t + w) (sum-total d types)

-- ---- the parts of a value

field-types : (d : Checked) → IsTypedDesign d → (number : ℕ) → IsType d (of_base (base.Struct number)) → AllByRecursion (IsType d) (map (λ (f : CheckedField). f.of) (fields_of d number))
field-types d design number ok =
    let it = declared-struct d number ok in
    let s = design.structs number it.struct it.is in
    let each = subst (λ (o : Option Struct). AllByRecursion (λ (f : CheckedField). IsType d f.of × IsAmong number f.of.base) (fields_by o)) (sym it.is)
    (all-each d design (λ (f : CheckedField). IsType d f.of × IsAmong number f.of.base) it.struct.fields s.fields) in
    types_of d design (fields_of d number) (first_of d design (fields_of d number) number each)

pub parts_of_fields : (d : Checked) (number : ℕ) (vs : List Value) (t : ValueType) → IsTypedDesign d → IsType d t → IsOf d (value.Fields number vs) t →
    AreParts d (map (λ (f : CheckedField). f.of) (fields_of d number)) vs
parts_of_fields d number vs t design valid of =
    let h = open-IsOf d (value.Fields number vs) (Value-F.Fields number vs) (value.rolls-Fields number vs) t of in
    let ok : IsType d (of_base (base.Struct number)) = subst (IsType d) h.0 valid in
    record {
      design = design;
      valid = field-types d design number ok;
      of = h.1;
      fits = subst IsWidth (sym (sum-total d (map (λ (f : CheckedField). f.of) (fields_of d number)) ∙ struct-total d design number ok)) ok;
    }

pub parts_of_items : (d : Checked) (vs : List Value) (t : ValueType) → IsTypedDesign d → IsType d t → IsOf d (value.Items vs) t → (item : ValueType) × AreParts d (replicate (length vs) item) vs
parts_of_items d vs t design valid of =
    let h = open-IsOf d (value.Items vs) (Value-F.Items vs) (value.rolls-Items vs) t of in
    let whole : length vs * width_of d h.0 ≡ width_of d t = array-width d (length vs) h.0 ∙ sym (ap (width_of d) h.1) in
    let ok : IsType d h.0 = item-type d design (length vs) (width_of d h.0) (subst IsWidth (sym whole) valid) in (
      h.0,
      record {
        design = design;
        valid = same_types d design (length vs) h.0 ok;
        of = h.2;
        fits = subst IsWidth (sym (sum-total d (replicate (length vs) h.0) ∙ total-replicate d (length vs) h.0 ∙ whole)) valid;
      },
    )

-- ---- each part, and all together

pub part-at : (d : Checked) (types : List ValueType) (vs : List Value) (k : ℕ) (x : Value) → AreParts d types vs → k < length vs → (t : ValueType) × IsType d t × IsOf d (get_or vs k x) t
part-at d types vs k x are below = at types vs k are.valid are.of below
  where
    at : (ts : List ValueType) (us : List Value) (i : ℕ) → AllByRecursion (IsType d) ts → Pairwise (IsOf d) us ts → i < length us → (t : ValueType) × IsType d t × IsOf d (get_or us i x) t
    at ts [] i valid of lt = absurd (omega arith)
    at [] (u ∷ us) i valid of lt = absurd of
    at (t ∷ ts) (u ∷ us) zero valid of lt = (t, valid.0, of.0)
    at (t ∷ ts) (u ∷ us) (suc i) valid of lt = at ts us i valid.1 of.1 (omega arith)

together : (d : Checked) (types : List ValueType) (vs : List Value) → IsTypedDesign d → AllByRecursion (IsType d) types → Pairwise (IsOf d) vs types → sum_by packed_width vs ≡ sum_by (width_of d) types
together d [] [] design valid of = refl
together d (t ∷ types) [] design valid of = absurd of
together d [] (v ∷ vs) design valid of = absurd of
together d (t ∷ types) (v ∷ vs) design valid of =
    let first : packed_width v ≡ width_of d t = (constant-stands d design t v valid.0 of.0).2.1 in
    let rest = together d types vs design valid.1 of.1 in
    omega (arith, first, rest, sum_by-cons packed_width v vs, sum_by-cons (width_of d) t types)

pub parts-fit : (d : Checked) (types : List ValueType) (vs : List Value) → AreParts d types vs → IsWidth (sum_by packed_width vs)
parts-fit d types vs are = subst IsWidth (sym (together d types vs are.design are.valid are.of)) are.fits

room : (d : Checked) (types : List ValueType) (vs : List Value) (k : ℕ) (x : Value) → AreParts d types vs → k < length vs → sum_by packed_width (take k vs) + packed_width (get_or vs k x) ≤ 128
room d types vs k x are below = let most = (parts-fit d types vs are).1 in omega (arith, sum_by_more_le packed_width vs k x below)

pub stacked-room : (d : Checked) (types : List ValueType) (vs : List Value) (k : ℕ) (x : Value) (b : BitVector) → AreParts d types vs → k < length vs → b ≡ stacked (map packed (take k vs)) →
    b.width + (packed (get_or vs k x)).width ≤ 128
stacked-room d types vs k x b are below e =
    let sum : b.width ≡ sum_by packed_width (take k vs) = ap wide e ∙ stacked-width (map packed (take k vs)) ∙ sum_by-map wide packed (take k vs) in
    omega (arith, sum, room d types vs k x are below)

pub stacked_up-room : (d : Checked) (types : List ValueType) (vs : List Value) (k : ℕ) (x : Value) (b : BitVector) → AreParts d types vs → k < length vs → b ≡ stacked_up (map packed (take k vs)) →
    (packed (get_or vs k x)).width + b.width ≤ 128
stacked_up-room d types vs k x b are below e =
    let sum : b.width ≡ sum_by packed_width (take k vs) = ap wide e ∙ stacked_up-width (map packed (take k vs)) ∙ sum_by-map wide packed (take k vs) in
    omega (arith, sum, room d types vs k x are below)

-- bits that there are
some-bits : (all : Option BitVector) (b : BitVector) → so_far all ≡ b → 1 ≤ b.width → all ≡ Some b
some-bits None b e some = absurd (omega (arith, ap wide e))
some-bits (Some a) b e some = ap Some e

pub stacked-all : (d : Checked) (types : List ValueType) (vs : List Value) (all : Option BitVector) → AreParts d types vs → so_far all ≡ stacked (map packed vs) → all ≡ Some (stacked (map packed vs))
stacked-all d types vs all are e =
    some-bits all (stacked (map packed vs)) e (omega (arith, stacked-width (map packed vs), sum_by-map wide packed vs, (parts-fit d types vs are).0))

pub stacked_up-all : (d : Checked) (types : List ValueType) (vs : List Value) (all : Option BitVector) → AreParts d types vs → so_far all ≡ stacked_up (map packed vs) → all ≡ Some (stacked_up (map packed vs))
stacked_up-all d types vs all are e =
    some-bits all (stacked_up (map packed vs)) e (omega (arith, stacked_up-width (map packed vs), sum_by-map wide packed vs, (parts-fit d types vs are).0))

-- ---- one more part

pub not-none : {X : Type 0} (o : Option X) (x : X) → o ≡ None → o ≡ Some x → ⊥
not-none o x e f = let g : None ≡ Some x = sym e ∙ f in cc

pub part-bits : (d : Checked) (types : List ValueType) (vs : List Value) (k : ℕ) (x : Value) (r : Option BitVector) → AreParts d types vs → k < length vs → x ≡ get_or vs k x →
    ((c : Checked) (t : ValueType) → IsTypedDesign c → IsType c t → IsOf c x t → r ≡ Some (packed x)) → r ≡ Some (packed (get_or vs k x))
part-bits d types vs k x r are below is h =
    let at = part-at d types vs k x are below in
    h d at.0 are.design at.1 (subst (λ v. IsOf d v at.0) (sym is) at.2) ∙ ap (λ v. Some (packed v)) is

pub low-next : (d : Checked) (types : List ValueType) (vs : List Value) (k : ℕ) (x : Value) (all r : Option BitVector) (bits : BitVector) → AreParts d types vs → k < length vs →
    so_far all ≡ stacked (map packed (take k vs)) → bits ≡ packed (get_or vs k x) → ((so_far all).width + bits.width ≤ 128 → r ≡ Some (op.concat (so_far all) bits)) →
    r ≡ Some (stacked (map packed (take (k + 1) vs)))
low-next d types vs k x all r bits are below before is h =
    let room = subst (λ (b : BitVector). (so_far all).width + b.width ≤ 128) (sym is) (stacked-room d types vs k x (so_far all) are below before) in
    h room ∙ ap Some (ap₂ op.concat before is ∙ sym (stacked-next vs k x below))

pub high-next : (d : Checked) (types : List ValueType) (vs : List Value) (k : ℕ) (x : Value) (all r : Option BitVector) (bits : BitVector) → AreParts d types vs → k < length vs →
    so_far all ≡ stacked_up (map packed (take k vs)) → bits ≡ packed (get_or vs k x) → (bits.width + (so_far all).width ≤ 128 → r ≡ Some (op.concat bits (so_far all))) →
    r ≡ Some (stacked_up (map packed (take (k + 1) vs)))
high-next d types vs k x all r bits are below before is h =
    let room = subst (λ (b : BitVector). b.width + (so_far all).width ≤ 128) (sym is) (stacked_up-room d types vs k x (so_far all) are below before) in
    h room ∙ ap Some (ap₂ op.concat is before ∙ sym (stacked_up-next vs k x below))
