-- What the loops that unpack the parts of a value keep.
use Rattle.std.proofs.Common.{◌≡◌, ℕ, ◌+◌, ◌-◌, ◌*◌, ◌/◌, ◌%◌, ◌^◌, ◌<◌, ◌≤◌, List, [], ◌∷◌, ◌++◌, Some, slice_get, map, replicate, take, drop, min, length, length-drop, get_or, refl, ap, ap₂, sym, subst, ◌∙◌, le_refl, arith}
use Rattle.std.proofs.Math.Nat.{add-mul, div-eq_of_lt, div-one, mod-eq_of_lt, mod-one, mul-le-mul, mul_comm}
use Rattle.std.proofs.Math.Seq.{take-length}
use Rattle.std.proofs.lemmas.Grind.{replicate_next}
use Rattle.std.proofs.lemmas.List.{take_all, take_more}
use Rattle.std.proofs.lemmas.List.Elements.{All-drop}
use Rattle.std.proofs.lemmas.List.Sums.{sum_by-take-drop, sum_by_more, sum_by_more_le}
use Rattle.kw_bits.specs.BitVector.{BitVector, IsBits}
use Rattle.kw_bits.specs.Operators.{concat, slice}
use Rattle.koika_types.specs.Types.{AreTypes, IsTable, IsType, IsTypeAmong, fields_found, fields_of, total_width, width}
use Rattle.koika_types.specs.Values.{IsOf, Pairwise, nothing, packed, stacked, stacked_up}
use Rattle.koika_types.specs.declared.ty.Ty.{Ty}
use Rattle.koika_types.specs.declared.ty.Ty.TheVariants as ty
use Rattle.koika_types.specs.declared.declarations.Field.{Field}
use Rattle.koika_types.specs.declared.declarations.StructDecl.{StructDecl}
use Rattle.koika_types.specs.declared.declarations.Declarations.{Declarations}
use Rattle.koika_types.specs.declared.value.Value.{Value}
use Rattle.std.proofs.lemmas.Option.{slice_get-get_or}
use Rattle.koika_types.proofs.Parts.{map-push}
use Rattle.koika_types.proofs.Ranks.{rank, rank-field}
use Rattle.koika_types.proofs.Sizes.{IsType-more, parts_of_struct, sum_by-map}
use Rattle.koika_types.proofs.Stacks.{next_down, next_up, same_bits, stacked-push, stacked_up-push}

Pairwise-push : (is : Value → Ty → Type 0) (vs : List Value) (types : List Ty) (v : Value) (t : Ty) → Pairwise is vs types → is v t → Pairwise is (vs ++ v ∷ []) (types ++ t ∷ [])
Pairwise-push is [] [] v t h k = (k, tt)
Pairwise-push is [] (u ∷ types) v t h k = absurd h
Pairwise-push is (w ∷ vs) [] v t h k = absurd h
Pairwise-push is (w ∷ vs) (u ∷ types) v t h k = (h.0, Pairwise-push is vs types v t h.1 k)

abbrev pub types_of : List Field → List Ty
types_of = map (λ (field : Field). field.ty)

-- the bits of a vector from this place up
abbrev pub from_place : BitVector → ℕ → BitVector
from_place bits above = record { width = bits.width - above; number = bits.number / 2 ^ above }

-- the bits of a vector below this place
abbrev pub below_place : BitVector → ℕ → BitVector
below_place bits below = record { width = below; number = bits.number % 2 ^ below }

-- these are the values of the first fields, and their bits are those from a place up
pub record FieldsSoFar (d : Declarations) (fields : List Field) (bits : BitVector) (i : ℕ) (values : List Value) (above : ℕ) : Type 0 where
  pub of : Pairwise (IsOf d) values (types_of (take i fields))
  pub left : above + total_width d (take i fields) ≡ bits.width
  pub done : stacked (map packed values) ≡ from_place bits above

pub no_fields : (d : Declarations) (fields : List Field) (bits : BitVector) → IsBits bits → FieldsSoFar d fields bits 0 [] bits.width
no_fields d fields bits p = record { of = tt; left = omega arith; done = same_bits nothing _ (omega arith) (sym (div-eq_of_lt p.in_range)) }

pub field_fits : (d : Declarations) (fields : List Field) (bits : BitVector) (i : ℕ) (values : List Value) (above : ℕ) (x : Field) → FieldsSoFar d fields bits i values above →
    i < length fields → total_width d fields ≡ bits.width → width d (get_or fields i x).ty ≤ above
field_fits d fields bits i values above x h lt whole = let left = h.left in omega (arith, sum_by_more_le (λ (field : Field). width d field.ty) fields i x lt)

slice_below : (bits : BitVector) (above w : ℕ) → 1 ≤ w → w ≤ above → above ≤ bits.width → concat (from_place bits above) (slice bits (above - 1) (above - w)) ≡ from_place bits (above - w)
unfolding concat slice
slice_below bits above w some fits within =
    let taken : above - 1 - (above - w) + 1 ≡ w = omega arith in
    same_bits _ _ (omega arith)
    (ap (λ k. bits.number / 2 ^ above * 2 ^ k + bits.number / 2 ^ (above - w) % 2 ^ k) taken ∙ next_down bits.number w above fits)

pub next_field : (d : Declarations) (fields : List Field) (bits : BitVector) (i : ℕ) (values : List Value) (above w : ℕ) (x : Field) (v : Value) → FieldsSoFar d fields bits i values above →
    i < length fields → w ≡ width d (get_or fields i x).ty → 1 ≤ w → w ≤ above → IsOf d v (get_or fields i x).ty → packed v ≡ slice bits (above - 1) (above - w) →
    FieldsSoFar d fields bits (i + 1) (values ++ v ∷ []) (above - w)
next_field d fields bits i values above w x v h lt wide some fits of is =
    let left = h.left in
    let more = sum_by_more (λ (field : Field). width d field.ty) fields i x lt in
    let types : types_of (take (i + 1) fields) ≡ types_of (take i fields) ++ (get_or fields i x).ty ∷ [] =
    ap types_of (take_more fields i x lt) ∙ map-push (λ (field : Field). field.ty) (take i fields) (get_or fields i x) in
    record {
      of = subst (Pairwise (IsOf d) (values ++ v ∷ [])) (sym types) (Pairwise-push (IsOf d) values _ v _ h.of of);
      left = omega arith;
      done = ap stacked (map-push packed values v) ∙ stacked-push (map packed values) (packed v) ∙ ap₂ concat h.done is ∙ slice_below bits above w some fits (omega arith);
    }

pub all_fields : (d : Declarations) (fields : List Field) (bits : BitVector) (values : List Value) (above : ℕ) → FieldsSoFar d fields bits (length fields) values above →
    total_width d fields ≡ bits.width → Pairwise (IsOf d) values (types_of fields) × (stacked (map packed values) ≡ bits)
all_fields d fields bits values above h whole =
    let all : take (length fields) fields ≡ fields = take-length fields in
    let left : above + total_width d fields ≡ bits.width = ap (λ fs. above + total_width d fs) (sym all) ∙ h.left in
    let none : above ≡ 0 = omega arith in
    (subst (λ fs. Pairwise (IsOf d) values (types_of fs)) all h.of, h.done ∙ ap (from_place bits) none ∙ same_bits _ bits (omega arith) (div-one bits.number))

-- these are the values of the first items, and their bits are those below a place
pub record ItemsSoFar (d : Declarations) (item : Ty) (bits : BitVector) (w i : ℕ) (values : List Value) : Type 0 where
  pub of : Pairwise (IsOf d) values (replicate i item)
  pub done : stacked_up (map packed values) ≡ below_place bits (i * w)

pub no_items : (d : Declarations) (item : Ty) (bits : BitVector) (w : ℕ) → ItemsSoFar d item bits w 0 []
no_items d item bits w =
    let none : 0 ≡ 0 * w = omega arith in
    record { of = tt; done = same_bits nothing _ none (sym (mod-one bits.number) ∙ ap (λ k. bits.number % 2 ^ k) none) }

slice_above : (bits : BitVector) (w below : ℕ) → 1 ≤ w → concat (slice bits (below + w - 1) below) (below_place bits below) ≡ below_place bits (w + below)
unfolding concat slice
slice_above bits w below some =
    let taken : below + w - 1 - below + 1 ≡ w = omega arith in
    same_bits _ _ (omega arith)
    (ap (λ k. bits.number / 2 ^ below % 2 ^ k * 2 ^ below + bits.number % 2 ^ below) taken ∙ next_up bits.number w below)

pub next_item : (d : Declarations) (item : Ty) (bits : BitVector) (w i : ℕ) (values : List Value) (v : Value) → ItemsSoFar d item bits w i values →
    1 ≤ w → IsOf d v item → packed v ≡ slice bits (i * w + w - 1) (i * w) → ItemsSoFar d item bits w (i + 1) (values ++ v ∷ [])
next_item d item bits w i values v h some of is =
    let place : w + i * w ≡ (i + 1) * w = omega (arith, add-mul i 1 w) in
    record {
      of = subst (Pairwise (IsOf d) (values ++ v ∷ [])) (sym (replicate_next i item)) (Pairwise-push (IsOf d) values (replicate i item) v item h.of of);
      done = ap stacked_up (map-push packed values v) ∙ stacked_up-push (map packed values) (packed v) ∙ ap₂ concat is h.done ∙ slice_above bits w (i * w) some ∙ ap (below_place bits) place;
    }

pub all_items : (d : Declarations) (item : Ty) (bits : BitVector) (w n : ℕ) (values : List Value) → IsBits bits → w * n ≡ bits.width → ItemsSoFar d item bits w n values →
    Pairwise (IsOf d) values (replicate n item) × (stacked_up (map packed values) ≡ bits)
all_items d item bits w n values p whole h =
    let all : n * w ≡ bits.width = mul_comm n w ∙ whole in
    (h.of, h.done ∙ ap (below_place bits) all ∙ same_bits _ bits refl (mod-eq_of_lt p.in_range))

-- these are the fields of the struct of this number, which is a valid type
pub record Opened (d : Declarations) (n : ℕ) (fields : List Field) : Type 0 where
  pub decl : StructDecl
  pub is : slice_get d.structs n ≡ Some decl
  pub same : fields ≡ decl.fields
  pub table : IsTable d
  pub valid : IsType d (ty.Struct n)

pub opened : (d : Declarations) (n : ℕ) (structs : List StructDecl) (decl : StructDecl) (fields : List Field) → IsTable d → IsType d (ty.Struct n) →
    structs ≡ d.structs → decl ≡ get_or structs n decl → fields ≡ (get_or structs n decl).fields → Opened d n fields
opened d n structs decl fields table valid all at same = record {
  decl = decl;
  is = slice_get-get_or d.structs n decl valid.0 ∙ ap Some (ap (λ (ss : List StructDecl). get_or ss n decl) (sym all) ∙ sym at);
  same = same ∙ ap (λ (s : StructDecl). s.fields) (sym at);
  table = table;
  valid = valid;
}

among : (d : Declarations) (n : ℕ) (fields : List Field) (o : Opened d n fields) (i : ℕ) (x : Field) → i < length fields → IsTypeAmong d n (get_or fields i x).ty
among d n fields o i x lt =
    subst (λ (fs : List Field). IsTypeAmong d n (get_or fs i x).ty) (sym o.same)
    ((o.table.structs n o.decl o.is).fields i x (subst (λ (fs : List Field). i < length fs) o.same lt))

pub opened-type : (d : Declarations) (n : ℕ) (fields : List Field) → Opened d n fields → (i : ℕ) (x : Field) → i < length fields → IsType d (get_or fields i x).ty
opened-type d n fields o i x lt =
    let within = o.valid.0 in
    IsType-more d n (length d.structs) (omega arith) _ (among d n fields o i x lt)

pub opened-rank : (d : Declarations) (n : ℕ) (fields : List Field) → Opened d n fields → (i : ℕ) (x : Field) → i < length fields → rank d (get_or fields i x).ty < rank d (ty.Struct n)
opened-rank d n fields o i x lt =
    let Falls : List Field → Type 0 = λ fs. rank d (get_or fs i x).ty < rank d (ty.Struct n) in
    let At : List Field → Type 0 = λ fs. i < length fs in
    let Among : List Field → Type 0 = λ fs. IsTypeAmong d n (get_or fs i x).ty in
    subst Falls (sym o.same) (rank-field d n o.decl i x o.is (subst At o.same lt) (subst Among o.same (among d n fields o i x lt)))

pub opened-total : (d : Declarations) (n : ℕ) (fields : List Field) → Opened d n fields → total_width d fields ≡ width d (ty.Struct n)
opened-total d n fields o =
    ap (total_width d) o.same ∙ sym (sum_by-map (width d) (λ (field : Field). field.ty) o.decl.fields) ∙ (parts_of_struct d o.table n o.decl o.is o.valid).1

pub item_fits : (all w each i n : ℕ) → all ≡ each * n → w ≡ each → i < n → i * w + w ≤ all
item_fits all w each i n whole same lt =
    let next : i + 1 ≤ n = omega arith in
    let inner : (i + 1) * w ≤ n * w = mul-le-mul next (le_refl w) in
    let total : n * w ≡ each * n = ap (λ k. n * k) same ∙ mul_comm n each in
    omega (arith, inner, total, add-mul i 1 w)

-- ---- the fields behind one

rest_of : (fields : List Field) (m : ℕ) → take (length fields - m) (drop m fields) ≡ drop m fields
rest_of fields m = take_all (length fields - m) (drop m fields) (omega (arith, length-drop m fields))

pub rest_valid : (d : Declarations) (n : ℕ) (fields : List Field) → Opened d n fields → (m : ℕ) → AreTypes d (take (length fields - m) (drop m fields))
rest_valid d n fields o m =
    subst (AreTypes d) (sym (rest_of fields m)) (All-drop (λ (field : Field). IsType d field.ty) m fields (λ i x lt. opened-type d n fields o i x lt))

pub rest_total : (d : Declarations) (n : ℕ) (fields : List Field) → Opened d n fields → (m : ℕ) →
    min (total_width d (take (length fields - m) (drop m fields))) 129 ≡ total_width d (drop m (fields_of d n))
rest_total d n fields o m =
    let most : width d (ty.Struct n) ≤ 128 = o.valid.1.1 in
    let split = sum_by-take-drop (λ (field : Field). width d field.ty) fields m in
    let few : total_width d (drop m fields) ≤ 128 = omega (arith, split, opened-total d n fields o) in
    let all : fields ≡ fields_of d n = o.same ∙ sym (ap fields_found o.is) in
    ap (λ fs. min (total_width d fs) 129) (rest_of fields m) ∙ capped (total_width d (drop m fields)) few ∙ ap (λ fs. total_width d (drop m fs)) all
  where
    capped : (k : ℕ) → k ≤ 128 → min k 129 ≡ k
    capped k le = omega arith
