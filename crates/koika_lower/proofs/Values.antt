-- What bits stand for which values.
use Rattle.std.proofs.Common.{◌≡◌, ℕ, zero, suc, ◌+◌, ◌-◌, ◌*◌, ◌/◌, ◌≤◌, ◌<◌, List, [], ◌∷◌, ◌++◌, length, map, replicate, sum_by, Option, Some, slice_get, slice_index, slice_index_or, slice_set, drop, arith, le_refl, refl, ap, ap₂, sym, subst, ◌∙◌}
use Rattle.std.specs.List.{AllByRecursion}
use Rattle.std.specs.Prelude.{All}
use Rattle.std.proofs.Math.Nat.{mul-div_cancel_left, mul-le-mul}
use Rattle.std.proofs.lemmas.List.{length-map, map-append}
use Rattle.std.proofs.lemmas.List.Sums.{sum_by-cons}
use Rattle.kw_bits.specs.BitVector.{BitVector}
use Rattle.kw_bits.specs.Laws.{HasWidth}
use Rattle.kw_bits.specs.Operators as op
use Rattle.kw_bits.proofs.OperatorLaws.{concat-HasWidth, concat-slice, slice-concat, slice-HasWidth, slice-whole}
use Rattle.koika_types.specs.Values.{packed, packed_part, stacked, stacked_up}
use Rattle.koika_types.specs.declared.value.Value.{Value, out-Value, roll-out-Value}
use Rattle.koika_types.specs.declared.value.Value.TheVariants as value
use Rattle.koika_types.specs.declared.value.Value.TheFolds.{ind-Value, map-Value}
use Rattle.koika_types.specs.declared.value.Value.TheOpen.{Value-F}
use Rattle.koika_types.specs.declared.value.Value.TheViews.{roll-Value}
use Rattle.koika_types.proofs.Layers.{packed-Fields, packed-Items, packed-Member, packed-roll}
use Rattle.koika_types.proofs.Stacks.{concat-nothing, nothing-concat, stacked_up-push}
use Rattle.koika_check.specs.Composites.{fields_by, fields_of}
use Rattle.koika_check.specs.Meaning.{all_selected, below, parts_by, selected, with_parts, from_the_top, updated, unpacked, unpacked_among}
use Rattle.koika_check.specs.Types.{all_lengths, array, base_width, bits, of_base, width_of}
use Rattle.koika_check.specs.Typing.{IsAmong, IsOf, IsType, IsTypedDesign, Pairwise, PartIsOf, Replaces, lowest_of, Takes, TakesAll}
use Rattle.koika_check.specs.declared.checked.Checked.{Checked}
use Rattle.koika_check.specs.declared.checked.CheckedField.{CheckedField}
use Rattle.koika_check.specs.declared.checked.Struct.{Struct}
use Rattle.koika_check.specs.declared.typed.BaseType.{BaseType}
use Rattle.koika_check.specs.declared.typed.BaseType.TheVariants as base
use Rattle.koika_check.specs.declared.typed.Selection.{Selection}
use Rattle.koika_check.specs.declared.typed.Selection.TheVariants as selection
use Rattle.koika_check.specs.declared.typed.ValueType.{ValueType}
use Rattle.koika_lower.specs.inner.Applied.{AllFit, lowest_bit, lowest_of_all, part_width, range_at, width_of_all, with_part}
use Rattle.koika_lower.specs.inner.Simulation.{StandAll, Stands}
use Rattle.koika_lower.proofs.Replacements.{replace-above, replace-all, replace-below, replace-lower, replace-upper}
use Rattle.koika_lower.proofs.Slices.{slice-high, slice-low, slice-slice}
use Rattle.koika_check.proofs.TypingLayers.{close-IsOf, open-IsOf}
use Rattle.koika_lower.proofs.TypedNumbers.{base_of, lengths_of, number-stands}
use Rattle.koika_lower.proofs.Widths.{width-bits}

-- widths together
abbrev pub total : Checked → List ValueType → ℕ
total d [] = 0
total d (t ∷ ts) = width_of d t + total d ts

-- ---- structs

-- the fields' widths together
total-fields : (d : Checked) (fields : List CheckedField) → total d (map (λ (f : CheckedField). f.of) fields) ≡ sum_by (λ (f : CheckedField). width_of d f.of) fields
total-fields d [] = refl
total-fields d (f ∷ fields) = ap (λ w. width_of d f.of + w) (total-fields d fields) ∙ sym (sum_by-cons (λ (f : CheckedField). width_of d f.of) f fields)

-- a struct that is a valid type is declared, and as wide as its fields
pub record Declared (d : Checked) (number : ℕ) : Type 0 where
  pub struct : Struct
  pub is : slice_get d.structs number ≡ Some struct
  pub wide : width_of d (of_base (base.Struct number)) ≡ struct.width

declared-at : (d : Checked) (xs : List Struct) (number : ℕ) → 1 ≤ slice_index (map (λ (s : Struct). s.width) xs) number →
    (s : Struct) × (slice_get xs number ≡ Some s) × (slice_index (map (λ (s : Struct). s.width) xs) number ≡ s.width)
declared-at d [] number some = absurd (omega arith)
declared-at d (x ∷ xs) zero some = (x, refl, refl)
declared-at d (x ∷ xs) (suc number) some = declared-at d xs number some

pub declared-struct : (d : Checked) (number : ℕ) → IsType d (of_base (base.Struct number)) → Declared d number
declared-struct d number valid =
    let it = declared-at d d.structs number (omega (arith, valid.0)) in
    record { struct = it.0; is = it.1; wide = omega (arith, it.2) }

pub struct-total : (d : Checked) → IsTypedDesign d → (number : ℕ) → IsType d (of_base (base.Struct number)) →
    total d (map (λ (f : CheckedField). f.of) (fields_of d number)) ≡ width_of d (of_base (base.Struct number))
struct-total d design number valid =
    let it = declared-struct d number valid in
    let s = design.structs number it.struct it.is in
    let fields : total d (map (λ (f : CheckedField). f.of) (fields_of d number)) ≡ sum_by (λ (f : CheckedField). width_of d f.of) it.struct.fields =
    total-fields d (fields_of d number) ∙ ap (λ (o : Option Struct). sum_by (λ (f : CheckedField). width_of d f.of) (fields_by o)) it.is in
    omega (arith, fields, s.width, it.wide, valid.1)

pub stand-stacked : (d : Checked) (ts : List ValueType) (vs : List Value) (xs : List BitVector) → StandAll d ts vs xs → (Pairwise (IsOf d) vs ts) × (stacked (map packed vs) ≡ stacked xs)
stand-stacked d [] [] [] h = (tt, refl)
stand-stacked d [] [] (x ∷ xs) h = absurd h
stand-stacked d [] (v ∷ vs) xs h = absurd h
stand-stacked d (t ∷ ts) [] xs h = absurd h
stand-stacked d (t ∷ ts) (v ∷ vs) [] h = absurd h
stand-stacked d (t ∷ ts) (v ∷ vs) (x ∷ xs) h = let rest = stand-stacked d ts vs xs h.1 in ((h.0.0, rest.0), ap₂ op.concat h.0.1 rest.1)

-- what holds of each holds of the one at an index
pub all-get : {X : Type 0} (P : X → Type 0) (xs : List X) (i : ℕ) (x : X) → All P xs → slice_get xs i ≡ Some x → P x
all-get P [] i x all e = absurd (cc)
all-get P (y ∷ xs) zero x all e = let same : y ≡ x = cc in subst P same (all 0 y (omega arith))
all-get P (y ∷ xs) (suc i) x all e = all-get P xs i x (λ k z h. all (suc k) z (omega arith)) e

-- ---- items

pub total-replicate : (d : Checked) (k : ℕ) (item : ValueType) → total d (replicate k item) ≡ k * width_of d item
total-replicate d zero item = omega arith
total-replicate d (suc k) item = let rest = total-replicate d k item in omega (arith, rest)

up-width : (d : Checked) (t : ValueType) (ts : List ValueType) (v : Value) (vs : List Value) (x : BitVector) (xs : List BitVector) → StandAll d (t ∷ ts) (v ∷ vs) (x ∷ xs) → total d (t ∷ ts) ≤ 128 →
    HasWidth (stacked_up (x ∷ xs)) (total d (t ∷ ts))
up-width d t [] v [] x [] h few = subst (λ b. HasWidth b (width_of d t + 0)) (sym (nothing-concat x)) (h.0.2.0, h.0.2.1 ∙ omega arith)
up-width d t [] v [] x (y ∷ xs) h few = absurd h.1
up-width d t [] v (w ∷ vs) x xs h few = absurd h.1
up-width d t (u ∷ ts) v [] x xs h few = absurd h.1
up-width d t (u ∷ ts) v (w ∷ vs) x [] h few = absurd h.1
up-width d t (u ∷ ts) v (w ∷ vs) x (y ∷ xs) h few =
    let above = up-width d u ts w vs y xs h.1 (omega arith) in
    let whole = concat-HasWidth (stacked_up (y ∷ xs)) x above.0 h.0.2.0 (omega (arith, above.1, h.0.2.1)) in
    (whole.0, whole.1 ∙ omega (arith, above.1, h.0.2.1))

stand-up : (d : Checked) (ts : List ValueType) (vs : List Value) (xs : List BitVector) → StandAll d ts vs xs → (Pairwise (IsOf d) vs ts) × (stacked_up (map packed vs) ≡ stacked_up xs) × (length vs ≡ length xs) × (length ts ≡ length xs)
stand-up d [] [] [] h = (tt, refl, refl, refl)
stand-up d [] [] (x ∷ xs) h = absurd h
stand-up d [] (v ∷ vs) xs h = absurd h
stand-up d (t ∷ ts) [] xs h = absurd h
stand-up d (t ∷ ts) (v ∷ vs) [] h = absurd h
stand-up d (t ∷ ts) (v ∷ vs) (x ∷ xs) h = let rest = stand-up d ts vs xs h.1 in ((h.0.0, rest.0), ap₂ op.concat rest.1 h.0.1, ap suc rest.2, ap suc rest.3)

-- an array is as wide as its items together
pub array-width : (d : Checked) (k : ℕ) (item : ValueType) → k * width_of d item ≡ width_of d (array k item)
array-width d k item = omega arith

-- items stand for an array, the first in the lowest bits
pub items-stand : (d : Checked) (item : ValueType) (vs : List Value) (xs : List BitVector) → IsType d (array (length xs) item) → StandAll d (replicate (length xs) item) vs xs →
    Stands d (Some (array (length xs) item)) (Some (value.Items vs)) (stacked_up xs)
items-stand d item vs [] valid h = absurd (omega (arith, valid.0))
items-stand d item [] (x ∷ xs) valid h = absurd h
items-stand d item (v ∷ vs) (x ∷ xs) valid h =
    let both = stand-up d (replicate (length (x ∷ xs)) item) (v ∷ vs) (x ∷ xs) h in
    let whole : total d (replicate (length (x ∷ xs)) item) ≡ width_of d (array (length (x ∷ xs)) item) = total-replicate d (length (x ∷ xs)) item ∙ array-width d (length (x ∷ xs)) item in
    let w = up-width d item (replicate (length xs) item) v vs x xs h (omega (arith, whole, valid.1)) in (
      close-IsOf d (value.Items (v ∷ vs)) (Value-F.Items (v ∷ vs)) (value.rolls-Items (v ∷ vs)) (array (length (x ∷ xs)) item)
          (item, ap (λ k. array k item) (sym both.2), subst (λ k. Pairwise (IsOf d) (v ∷ vs) (replicate k item)) (sym both.2) both.0),
      packed-Items (v ∷ vs) ∙ both.1,
      (w.0, w.1 ∙ whole),
    )

-- ---- what bits are unpacked to

-- the numbers below a number
each-more : {X : Type 0} (P : X → Type 0) (xs : List X) (x : X) → AllByRecursion P xs → P x → AllByRecursion P (xs ++ x ∷ [])
each-more P [] x h p = (p, tt)
each-more P (y ∷ xs) x h p = (h.0, each-more P xs x h.1 p)

each-weaker : (m k : ℕ) → m ≤ k → (xs : List ℕ) → AllByRecursion (λ i. i < m) xs → AllByRecursion (λ i. i < k) xs
each-weaker m k le [] h = tt
each-weaker m k le (x ∷ xs) h = ((let low = h.0 in omega arith), each-weaker m k le xs h.1)

below-less : (k : ℕ) → AllByRecursion (λ i. i < k) (below k)
below-less zero = tt
below-less (suc k) = each-more (λ i. i < suc k) (below k) k (each-weaker k (suc k) (omega arith) (below k) (below-less k)) (omega arith)

length-more : {X : Type 0} (xs : List X) (x : X) → length (xs ++ x ∷ []) ≡ suc (length xs)
length-more [] x = refl
length-more (y ∷ xs) x = ap suc (length-more xs x)

below-length : (k : ℕ) → length (below k) ≡ k
below-length zero = refl
below-length (suc k) = length-more (below k) k ∙ ap suc (below-length k)

-- pieces of equal width
module _ (x : BitVector) (m : ℕ) (some : 1 ≤ m) where
  abbrev pub piece : ℕ → BitVector
  piece i = op.slice x ((i + 1) * m - 1) (i * m)

  stack-below : (k : ℕ) → stacked_up (map piece (below (suc k))) ≡ op.slice x (suc k * m - 1) 0
  stack-below zero = nothing-concat (piece 0) ∙ ap₂ (λ upper lower. op.slice x upper lower) (omega arith) (omega arith)
  stack-below (suc k) =
      let p : suc k * m ≡ k * m + m = omega arith in
      let q : suc (suc k) * m ≡ k * m + m + m = omega arith in
      ap stacked_up (map-append piece (below (suc k)) (suc k ∷ [])) ∙
      stacked_up-push (map piece (below (suc k))) (piece (suc k)) ∙
      ap (op.concat (piece (suc k))) (stack-below k) ∙
      ap₂ (λ upper lower. op.concat (op.slice x upper lower) (op.slice x (suc k * m - 1) 0)) (omega (arith, q)) (omega (arith, p)) ∙
      concat-slice x (suc (suc k) * m - 1) (suc k * m - 1) 0 (omega arith) (omega (arith, p, q))

  piece-width : (i k w : ℕ) → i < k → k * m ≡ w → HasWidth x w → HasWidth (piece i) m
  piece-width i k w below whole h =
      let p : (i + 1) * m ≡ i * m + m = omega arith in
      let le : (i + 1) * m ≤ k * m = grind (arith, below) in
      let r = slice-HasWidth x ((i + 1) * m - 1) (i * m) h.0 (omega (arith, p)) (omega (arith, p, le, whole, h.1)) in
      (r.0, r.1 ∙ omega (arith, p))

pub among-more : (k m : ℕ) (b : BaseType) → k ≤ m → IsAmong k b → IsAmong m b
among-more k m (base.Struct number) le h = omega arith
among-more k m (base.Bits w) le h = tt
among-more k m (base.Enum number) le h = tt

module _ (d : Checked) (is : IsTypedDesign d) where
  -- items, each of which stands for its piece
  pieces-stand : (item : ValueType) (look : BitVector → Value) (piece_at : ℕ → BitVector) (n : ℕ) → ((i : ℕ) → i < n → Stands d (Some item) (Some (look (piece_at i))) (piece_at i)) → (ks : List ℕ) →
      AllByRecursion (λ i. i < n) ks → StandAll d (replicate (length ks) item) (map (λ i. look (piece_at i)) ks) (map piece_at ks)
  pieces-stand item look piece_at n h [] each = tt
  pieces-stand item look piece_at n h (k ∷ ks) each = (h k each.0, pieces-stand item look piece_at n h ks each.1)

  array-stands : (structs n : ℕ) (b : BaseType) (lengths : List ℕ) (x : BitVector) → IsType d (record { base = b; lengths = n ∷ lengths }) → HasWidth x (width_of d (record { base = b; lengths = n ∷ lengths })) →
      ((y : BitVector) → HasWidth y (width_of d (record { base = b; lengths = lengths })) → Stands d (Some (record { base = b; lengths = lengths })) (Some (unpacked_among d structs b lengths y)) y) →
      Stands d (Some (record { base = b; lengths = n ∷ lengths })) (Some (unpacked_among d structs b (n ∷ lengths) x)) x
  array-stands structs zero b lengths x valid h look = absurd (omega (arith, valid.0))
  array-stands structs (suc k) b lengths x valid h look =
      let item : ValueType = record { base = b; lengths = lengths } in
      let n : ℕ = suc k in
      let m : ℕ = width_of d item in
      let whole : n * m ≡ x.width = array-width d n item ∙ sym h.1 in
      let some : 1 ≤ m = factor_some n m (omega (arith, array-width d n item, valid.0)) in
      let quotient : x.width / n ≡ m = ap (λ w. w / n) (sym whole) ∙ mul-div_cancel_left m {n = suc k} (omega arith) in
      let stand = pieces-stand item (unpacked_among d structs b lengths) (piece x m some) n (λ i below. look (piece x m some i) (piece-width x m some i n x.width below whole (h.0, refl))) (below n) (below-less n) in
      let count : length (map (piece x m some) (below n)) ≡ n = length-map (below n) (piece x m some) ∙ below-length n in
      let all : StandAll d (replicate (length (map (piece x m some) (below n))) item) (map (λ i. unpacked_among d structs b lengths (piece x m some i)) (below n)) (map (piece x m some) (below n)) =
      subst (λ c. StandAll d (replicate c item) (map (λ i. unpacked_among d structs b lengths (piece x m some i)) (below n)) (map (piece x m some) (below n))) (below-length n ∙ sym count) stand in
      let it = items-stand d item (map (λ i. unpacked_among d structs b lengths (piece x m some i)) (below n)) (map (piece x m some) (below n)) (subst (λ c. IsType d (array c item)) (sym count) valid) all in
      let bits_are : stacked_up (map (piece x m some) (below n)) ≡ x = stack-below x m some k ∙ ap (λ u. op.slice x (u - 1) 0) whole ∙ slice-whole x h.0 in
      subst (λ q. Stands d (Some (array n item)) (Some (value.Items (map (λ i. unpacked_among d structs b lengths (op.slice x ((i + 1) * q - 1) (i * q))) (below n)))) x) (sym quotient)
      (subst (λ y. Stands d (Some (array n item)) (Some (value.Items (map (λ i. unpacked_among d structs b lengths (piece x m some i)) (below n)))) y) bits_are
      (subst (λ c. Stands d (Some (array c item)) (Some (value.Items (map (λ i. unpacked_among d structs b lengths (piece x m some i)) (below n)))) (stacked_up (map (piece x m some) (below n)))) count it))
    where
      factor_some : (n m : ℕ) → 1 ≤ n * m → 1 ≤ m
      factor_some n m h = grind (arith, h)

  pub all-each : {X : Type 0} (P : X → Type 0) (xs : List X) → All P xs → AllByRecursion P xs
  all-each P [] h = tt
  all-each P (x ∷ xs) h = (h 0 x (omega arith), all-each P xs (λ i z below. h (suc i) z (omega arith)))

  -- fields, each of which stands for its piece
  fields-stand : (look : ValueType → BitVector → Value) (k : ℕ) →
      ((t : ValueType) (y : BitVector) → IsType d t → IsAmong k t.base → HasWidth y (width_of d t) → Stands d (Some t) (Some (look t y)) y) → (f : CheckedField) (fields : List CheckedField) (x : BitVector) →
      AllByRecursion (λ (f : CheckedField). IsType d f.of × IsAmong k f.of.base) (f ∷ fields) → HasWidth x (total d (map (λ (f : CheckedField). f.of) (f ∷ fields))) →
      (ps : List BitVector) × StandAll d (map (λ (f : CheckedField). f.of) (f ∷ fields)) (from_the_top d look (f ∷ fields) x) ps × (stacked ps ≡ x)
  fields-stand look k h f [] x each wide =
      let own : x.width ≡ width_of d f.of = wide.1 ∙ omega arith in
      let y : BitVector = op.slice x (x.width - 1) (x.width - width_of d f.of) in
      let same : y ≡ x = ap (λ low. op.slice x (x.width - 1) low) (omega (arith, own)) ∙ slice-whole x wide.0 in
      (y ∷ [], (h f.of y each.0.0 each.0.1 (subst (λ z. HasWidth z (width_of d f.of)) (sym same) (wide.0, own)), tt), concat-nothing y ∙ same)
  fields-stand look k h f (g ∷ fields) x each wide =
      let w : ℕ = width_of d f.of in
      let r : ℕ = total d (map (λ (f : CheckedField). f.of) (g ∷ fields)) in
      let own : x.width ≡ w + r = wide.1 in
      let some : 1 ≤ r = omega (arith, each.1.0.0.0) in
      let few : 1 ≤ w = each.0.0.0 in
      let y : BitVector = op.slice x (x.width - 1) (x.width - w) in
      let z : BitVector = op.slice x (x.width - w - 1) 0 in
      let hy = slice-HasWidth x (x.width - 1) (x.width - w) wide.0 (omega (arith, few, own)) (omega (arith, few, own)) in
      let hz = slice-HasWidth x (x.width - w - 1) 0 wide.0 (omega arith) (omega (arith, few, own)) in
      let rest = fields-stand look k h g fields z each.1 (hz.0, hz.1 ∙ omega (arith, some, own)) in (
        y ∷ rest.0,
        (h f.of y each.0.0 each.0.1 (hy.0, hy.1 ∙ omega (arith, few, own)), rest.1),
        ap (op.concat y) rest.2 ∙ ap (λ low. op.concat (op.slice x (x.width - 1) low) z) (omega (arith, some, own)) ∙ concat-slice x (x.width - 1) (x.width - w - 1) 0 (omega arith) (omega (arith, few, some, own)) ∙ slice-whole x wide.0,
      )

  struct-at : (structs number : ℕ) (x : BitVector) → ((t : ValueType) (y : BitVector) → IsType d t → IsAmong structs t.base → HasWidth y (width_of d t) → Stands d (Some t) (Some (unpacked_among d structs t.base t.lengths y)) y) →
      number < suc structs → (fields : List CheckedField) → fields ≡ fields_of d number → AllByRecursion (λ (f : CheckedField). IsType d f.of × IsAmong number f.of.base) fields → 1 ≤ total d (map (λ (f : CheckedField). f.of) fields) →
      HasWidth x (total d (map (λ (f : CheckedField). f.of) fields)) → HasWidth x (width_of d (of_base (base.Struct number))) →
      Stands d (Some (of_base (base.Struct number))) (Some (value.Fields number (from_the_top d (λ t part. unpacked_among d structs t.base t.lengths part) (fields_of d number) x))) x
  struct-at structs number x inner among [] e each some wide h = absurd (omega (arith, some))
  struct-at structs number x inner among (f ∷ fields) e each some wide h =
      let look : ValueType → BitVector → Value = λ t part. unpacked_among d structs t.base t.lengths part in
      let got = fields-stand look number (λ t y ok among' hy. inner t y ok (among-more number structs t.base (omega arith) among') hy) f fields x each wide in
      let both = stand-stacked d (map (λ (f : CheckedField). f.of) (f ∷ fields)) (from_the_top d look (f ∷ fields) x) got.0 got.1 in
      subst (λ fs. Stands d (Some (of_base (base.Struct number))) (Some (value.Fields number (from_the_top d look fs x))) x) e (
        close-IsOf d (value.Fields number (from_the_top d look (f ∷ fields) x)) (Value-F.Fields number (from_the_top d look (f ∷ fields) x)) (value.rolls-Fields number (from_the_top d look (f ∷ fields) x)) (of_base (base.Struct number))
            (refl, subst (λ fs. Pairwise (IsOf d) (from_the_top d look (f ∷ fields) x) (map (λ (f : CheckedField). f.of) fs)) e both.0),
        packed-Fields number (from_the_top d look (f ∷ fields) x) ∙ both.1 ∙ got.2,
        h,
      )

  -- a value of a type that names some structs alone
  among-stands : (structs : ℕ) (b : BaseType) (lengths : List ℕ) (x : BitVector) → IsType d (record { base = b; lengths = lengths }) → IsAmong structs b → HasWidth x (width_of d (record { base = b; lengths = lengths })) →
      Stands d (Some (record { base = b; lengths = lengths })) (Some (unpacked_among d structs b lengths x)) x
  among-stands structs b (n ∷ lengths) x valid among h =
      array-stands structs n b lengths x valid h
      (λ y hy. among-stands structs b lengths y (item_valid n (width_of d (record { base = b; lengths = lengths })) (subst (λ w. (1 ≤ w) × (w ≤ 128)) (sym (array-width d n (record { base = b; lengths = lengths }))) valid)) among hy)
    where
      item_valid : (n m : ℕ) → (1 ≤ n * m) × (n * m ≤ 128) → (1 ≤ m) × (m ≤ 128)
      item_valid zero m h = absurd (omega (arith, h.0))
      item_valid (suc n) zero h = absurd (omega (arith, h.0))
      item_valid (suc n) (suc m) h = (omega arith, omega (arith, h.1))
  among-stands structs (base.Bits w) [] x valid among h = number-stands d w x x refl (h.0, h.1 ∙ omega arith)
  among-stands structs (base.Enum number) [] x valid among h = (
    close-IsOf d (value.Member number x) (Value-F.Member number x) (value.rolls-Member number x) (of_base (base.Enum number)) (refl, (h.0, h.1 ∙ omega arith)),
    packed-Member number x,
    h,
  )
  among-stands zero (base.Struct number) [] x valid among h = absurd (omega arith)
  among-stands (suc structs) (base.Struct number) [] x valid among h =
      let it = declared-struct d number valid in
      let s = is.structs number it.struct it.is in
      let whole : total d (map (λ (f : CheckedField). f.of) (fields_of d number)) ≡ width_of d (of_base (base.Struct number)) = struct-total d is number valid in
      let each : AllByRecursion (λ (f : CheckedField). IsType d f.of × IsAmong number f.of.base) (fields_of d number) =
      subst (λ (o : Option Struct). AllByRecursion (λ (f : CheckedField). IsType d f.of × IsAmong number f.of.base) (fields_by o)) (sym it.is) (all-each (λ (f : CheckedField). IsType d f.of × IsAmong number f.of.base) it.struct.fields s.fields) in
      struct-at structs number x (λ t y ok among' hy. among-stands structs t.base t.lengths y ok among' hy) among (fields_of d number) refl each (subst (λ w. 1 ≤ w) (sym whole) valid.0) (h.0, h.1 ∙ sym whole) h

  index-within : (xs : List ℕ) (number : ℕ) → 1 ≤ slice_index xs number → number < length xs
  index-within [] number h = absurd (omega (arith, h))
  index-within (x ∷ xs) zero h = omega arith
  index-within (x ∷ xs) (suc number) h = let rest = index-within xs number h in omega (arith, rest)

  pub among-valid : (b : BaseType) (k : ℕ) → 1 ≤ base_width d b * k → IsAmong (length d.structs) b
  among-valid (base.Bits w) k some = tt
  among-valid (base.Enum number) k some = tt
  among-valid (base.Struct number) k some =
      let declared : 1 ≤ slice_index (map (λ (s : Struct). s.width) d.structs) number = factor (slice_index (map (λ (s : Struct). s.width) d.structs) number) k some in
      let within = index-within (map (λ (s : Struct). s.width) d.structs) number declared in
      subst (λ n. number < n) (length-map d.structs (λ (s : Struct). s.width)) within
    where
      factor : (m k : ℕ) → 1 ≤ m * k → 1 ≤ m
      factor zero k h = absurd (omega (arith, h))
      factor (suc m) k h = omega arith

  -- what bits are unpacked to
  pub unpacked-stands : (t : ValueType) (x : BitVector) → IsType d t → HasWidth x (width_of d t) → Stands d (Some t) (Some (unpacked d t x)) x
  unpacked-stands t x valid h = among-stands (length d.structs) t.base t.lengths x valid (among-valid t.base (all_lengths t.lengths) valid.0) h

  -- a constant has as many bits as its type
  abbrev Wide : Value → Type 0
  Wide v = (t : ValueType) → IsType d t → IsOf d v t → HasWidth (packed v) (width_of d t)

  wide_parts : (es : List ((v : Value) × Wide v)) (ts : List ValueType) → AllByRecursion (IsType d) ts → Pairwise (IsOf d) (map (λ e. e.0) es) ts → StandAll d ts (map (λ e. e.0) es) (map packed (map (λ e. e.0) es))
  wide_parts [] [] valid h = tt
  wide_parts [] (t ∷ ts) valid h = absurd h
  wide_parts (e ∷ es) [] valid h = absurd h
  wide_parts (e ∷ es) (t ∷ ts) valid h = ((h.0, refl, e.1 t valid.0 h.0), wide_parts es ts valid.1 h.1)

  stacked-width : (t : ValueType) (ts : List ValueType) (v : Value) (vs : List Value) (x : BitVector) (xs : List BitVector) → StandAll d (t ∷ ts) (v ∷ vs) (x ∷ xs) → total d (t ∷ ts) ≤ 128 →
      HasWidth (stacked (x ∷ xs)) (total d (t ∷ ts))
  stacked-width t [] v [] x [] h few = subst (λ b. HasWidth b (width_of d t + 0)) (sym (concat-nothing x)) (h.0.2.0, h.0.2.1 ∙ omega arith)
  stacked-width t [] v [] x (y ∷ xs) h few = absurd h.1
  stacked-width t [] v (w ∷ vs) x xs h few = absurd h.1
  stacked-width t (u ∷ ts) v [] x xs h few = absurd h.1
  stacked-width t (u ∷ ts) v (w ∷ vs) x [] h few = absurd h.1
  stacked-width t (u ∷ ts) v (w ∷ vs) x (y ∷ xs) h few =
      let under = stacked-width u ts w vs y xs h.1 (omega arith) in
      let all = concat-HasWidth x (stacked (y ∷ xs)) h.0.2.0 under.0 (omega (arith, under.1, h.0.2.1)) in
      (all.0, all.1 ∙ omega (arith, under.1, h.0.2.1))

  pub types_of : (fields : List CheckedField) → AllByRecursion (λ (f : CheckedField). IsType d f.of) fields → AllByRecursion (IsType d) (map (λ (f : CheckedField). f.of) fields)
  types_of [] h = tt
  types_of (f ∷ fields) h = (h.0, types_of fields h.1)

  pub first_of : (fields : List CheckedField) (k : ℕ) → AllByRecursion (λ (f : CheckedField). IsType d f.of × IsAmong k f.of.base) fields → AllByRecursion (λ (f : CheckedField). IsType d f.of) fields
  first_of [] k h = tt
  first_of (f ∷ fields) k h = (h.0.0, first_of fields k h.1)

  pub same_types : (k : ℕ) (t : ValueType) → IsType d t → AllByRecursion (IsType d) (replicate k t)
  same_types zero t h = tt
  same_types (suc k) t h = (h, same_types k t h)

  wide_struct : (es : List ((v : Value) × Wide v)) (ts : List ValueType) (w : ℕ) → StandAll d ts (map (λ e. e.0) es) (map packed (map (λ e. e.0) es)) → total d ts ≡ w → (1 ≤ w) × (w ≤ 128) → HasWidth (stacked (map packed (map (λ e. e.0) es))) w
  wide_struct [] [] w h e ok = absurd (omega (arith, ok.0))
  wide_struct [] (t ∷ ts) w h e ok = absurd h
  wide_struct (x ∷ es) [] w h e ok = absurd h
  wide_struct (x ∷ es) (t ∷ ts) w h e ok = subst (λ k. HasWidth (stacked (map packed (map (λ e. e.0) (x ∷ es)))) k) e (stacked-width t ts x.0 (map (λ e. e.0) es) (packed x.0) (map packed (map (λ e. e.0) es)) h (omega (arith, e, ok.1)))

  wide_array : (es : List ((v : Value) × Wide v)) (ts : List ValueType) (w : ℕ) → StandAll d ts (map (λ e. e.0) es) (map packed (map (λ e. e.0) es)) → total d ts ≡ w → (1 ≤ w) × (w ≤ 128) → HasWidth (stacked_up (map packed (map (λ e. e.0) es))) w
  wide_array [] [] w h e ok = absurd (omega (arith, ok.0))
  wide_array [] (t ∷ ts) w h e ok = absurd h
  wide_array (x ∷ es) [] w h e ok = absurd h
  wide_array (x ∷ es) (t ∷ ts) w h e ok = subst (λ k. HasWidth (stacked_up (map packed (map (λ e. e.0) (x ∷ es)))) k) e (up-width d t ts x.0 (map (λ e. e.0) es) (packed x.0) (map packed (map (λ e. e.0) es)) h (omega (arith, e, ok.1)))

  pub item-type : (n m : ℕ) → (1 ≤ n * m) × (n * m ≤ 128) → (1 ≤ m) × (m ≤ 128)
  item-type zero m h = absurd (omega (arith, h.0))
  item-type (suc n) zero h = absurd (omega (arith, h.0))
  item-type (suc n) (suc m) h = (omega arith, omega (arith, h.1))

  part-width : (y : Value-F ((v : Value) × Wide v)) (t : ValueType) → IsType d t → PartIsOf d (IsOf d) (map-Value ((v : Value) × Wide v) Value (λ e. e.0) y) t →
      HasWidth (packed_part (map-Value Value BitVector packed (map-Value ((v : Value) × Wide v) Value (λ e. e.0) y))) (width_of d t)
  part-width (Value-F.Number b) t valid h = (h.1, sym (ap (width_of d) h.0 ∙ width-bits d b.width))
  part-width (Value-F.Member m b) t valid h = (h.1.0, h.1.1 ∙ omega (arith, ap (width_of d) h.0))
  part-width (Value-F.Fields m es) t valid h =
      let ok : IsType d (of_base (base.Struct m)) = subst (IsType d) h.0 valid in
      let it = declared-struct d m ok in
      let s = is.structs m it.struct it.is in
      let each = subst (λ (o : Option Struct). AllByRecursion (λ (f : CheckedField). IsType d f.of × IsAmong m f.of.base) (fields_by o)) (sym it.is) (all-each (λ (f : CheckedField). IsType d f.of × IsAmong m f.of.base) it.struct.fields s.fields) in
      wide_struct es (map (λ (f : CheckedField). f.of) (fields_of d m)) (width_of d t) (wide_parts es (map (λ (f : CheckedField). f.of) (fields_of d m)) (types_of (fields_of d m) (first_of (fields_of d m) m each)) h.1)
      (struct-total d is m ok ∙ sym (ap (width_of d) h.0)) valid
  part-width (Value-F.Items es) t valid h =
      let n : ℕ = length (map (λ e. e.0) es) in
      let whole : n * width_of d h.0 ≡ width_of d t = array-width d n h.0 ∙ sym (ap (width_of d) h.1) in
      let item_ok = item-type n (width_of d h.0) (subst (λ w. (1 ≤ w) × (w ≤ 128)) (sym whole) valid) in
      wide_array es (replicate n h.0) (width_of d t) (wide_parts es (replicate n h.0) (same_types n h.0 item_ok) h.2) (total-replicate d n h.0 ∙ whole) valid

  constant-width : (v : Value) → Wide v
  constant-width = ind-Value Wide (λ x y same.
      let layer = map-Value ((v : Value) × Wide v) Value (λ e. e.0) y in
      subst (λ z. Wide (roll-Value z)) same (λ t valid of. subst (λ b. HasWidth b (width_of d t)) (sym (packed-roll layer)) (part-width y t valid (open-IsOf d (roll-Value layer) layer refl t of))))

  -- a constant stands for its bits
  pub constant-stands : (t : ValueType) (v : Value) → IsType d t → IsOf d v t → Stands d (Some t) (Some v) (packed v)
  constant-stands t v valid h = (h, refl, constant-width v t valid h)

  -- the place of a field
  field-place : (fields : List CheckedField) (number : ℕ) (f : CheckedField) → slice_get fields number ≡ Some f →
      sum_by (λ (g : CheckedField). width_of d g.of) (drop (number + 1) fields) + width_of d f.of ≤ sum_by (λ (g : CheckedField). width_of d g.of) fields
  field-place [] number f e = absurd (cc)
  field-place (g ∷ fields) zero f e =
      let same : g ≡ f = cc in
      let one : zero + 1 ≡ suc zero = omega arith in
      omega (arith, sum_by-cons (λ (g : CheckedField). width_of d g.of) g fields, ap (λ (x : CheckedField). width_of d x.of) same, ap (λ k. sum_by (λ (g : CheckedField). width_of d g.of) (drop k (g ∷ fields))) one)
  field-place (g ∷ fields) (suc number) f e =
      let rest = field-place fields number f e in
      let more : suc number + 1 ≡ suc (number + 1) = omega arith in
      omega (arith, rest, sum_by-cons (λ (g : CheckedField). width_of d g.of) g fields, ap (λ k. sum_by (λ (g : CheckedField). width_of d g.of) (drop k (g ∷ fields))) more)

  product-le : (n m i : ℕ) → i < n → i * m + m ≤ n * m
  product-le n m i below = let k : (i + 1) * m ≤ n * m = mul-le-mul (omega arith) (le_refl m) in omega (arith, k)

  -- the place of a part
  take-fit : (s : Selection) (t u : ValueType) → IsType d t → Takes d s t u → (lowest_bit s + part_width s ≤ width_of d t) × (part_width s ≡ width_of d u) × IsType d u
  take-fit (selection.Field number lowest width) t u valid h =
      let struct = h.0 in
      let ok : IsType d (of_base (base.Struct struct)) = subst (IsType d) h.2 valid in
      let it = declared-struct d struct ok in
      let s = is.structs struct it.struct it.is in
      let at : slice_get it.struct.fields number ≡ Some h.1 = subst (λ (o : Option Struct). slice_get (fields_by o) number ≡ Some h.1) it.is h.3 in
      let each = all-get (λ (f : CheckedField). IsType d f.of × IsAmong struct f.of.base) it.struct.fields number h.1 s.fields at in
      let place = field-place (fields_of d struct) number h.1 h.3 in
      let whole : sum_by (λ (f : CheckedField). width_of d f.of) (fields_of d struct) ≡ width_of d t = sym (total-fields d (fields_of d struct)) ∙ struct-total d is struct ok ∙ sym (ap (width_of d) h.2) in
      (omega (arith, place, whole, h.5, h.6), h.6 ∙ sym (ap (width_of d) h.4), subst (IsType d) (sym h.4) each.0)
  take-fit (selection.Item index width) t u valid h =
      let whole : h.0 * width_of d u ≡ width_of d t = array-width d h.0 u ∙ sym (ap (width_of d) h.1) in
      let le : index * width_of d u + width_of d u ≤ h.0 * width_of d u = product-le h.0 (width_of d u) index h.2 in
      (omega (arith, le, whole, ap (λ w. index * w + w) h.3), h.3, item_ok h.0 (width_of d u) index h.2 (subst (λ w. (1 ≤ w) × (w ≤ 128)) (sym whole) valid))
    where
      item_ok : (n m i : ℕ) → i < n → (1 ≤ n * m) × (n * m ≤ 128) → (1 ≤ m) × (m ≤ 128)
      item_ok zero m i below k = absurd (omega arith)
      item_ok (suc n) zero i below k = absurd (omega (arith, k.0))
      item_ok (suc n) (suc m) i below k = (omega arith, omega (arith, k.1))
  take-fit (selection.Bits high low) t u valid h =
      let wide : width_of d t ≡ h.0 = ap (width_of d) h.1 ∙ width-bits d h.0 in
      let own : width_of d u ≡ high - low + 1 = ap (width_of d) h.4 ∙ width-bits d (high - low + 1) in
      (omega (arith, wide, h.2, h.3), sym own, (omega (arith, own), omega (arith, own, wide, h.3, valid.1)))

  -- the places of parts of parts
  pub takes-fit : (selections : List Selection) (t part : ValueType) → IsType d t → TakesAll d selections t part →
      AllFit selections (width_of d t) × (width_of_all selections (width_of d t) ≡ width_of d part) × IsType d part × (lowest_of_all selections + width_of d part ≤ width_of d t)
  takes-fit [] t part valid h = ((tt, subst (λ w. 0 + w ≤ 128) refl (omega (arith, valid.1))), sym (ap (width_of d) h), subst (IsType d) (sym h) valid, omega (arith, ap (width_of d) h))
  takes-fit (s ∷ selections) t part valid h =
      let one = take-fit s t h.0 valid h.1 in
      let rest = takes-fit selections h.0 part one.2 h.2 in
      let same : width_of_all selections (part_width s) ≡ width_of_all selections (width_of d h.0) = ap (width_of_all selections) one.1 in (
        ((omega (arith, one.0, valid.1), rest.0.0), omega (arith, one.0, one.1, same, rest.1, rest.3, valid.1)),
        same ∙ rest.1,
        rest.2,
        omega (arith, one.0, one.1, rest.3),
      )

  -- a field has the bits of its place
  fields-total : (fields : List CheckedField) → sum_by (λ (f : CheckedField). width_of d f.of) fields ≡ total d (map (λ (f : CheckedField). f.of) fields)
  fields-total fields = sym (total-fields d fields)

  field-part : (fields : List CheckedField) (vs : List Value) (xs : List BitVector) (number : ℕ) (f : CheckedField) (v : Value) → StandAll d (map (λ (f : CheckedField). f.of) fields) vs xs → slice_get fields number ≡ Some f →
      total d (map (λ (f : CheckedField). f.of) fields) ≤ 128 → Stands d (Some f.of) (Some (slice_index_or vs number v))
      (op.slice (stacked xs) (sum_by (λ (f : CheckedField). width_of d f.of) (drop (number + 1) fields) + width_of d f.of - 1) (sum_by (λ (f : CheckedField). width_of d f.of) (drop (number + 1) fields)))
  field-part [] vs xs number f v h e few = absurd (cc)
  field-part (g ∷ fields) [] xs number f v h e few = absurd h
  field-part (g ∷ fields) (w ∷ vs) [] number f v h e few = absurd h
  field-part (g ∷ []) (w ∷ []) (x ∷ []) zero f v h e few =
      let same : g ≡ f = cc in
      let wide : x.width ≡ width_of d f.of = h.0.2.1 ∙ ap (λ (f : CheckedField). width_of d f.of) same in
      let none : sum_by (λ (f : CheckedField). width_of d f.of) (drop (zero + 1) (g ∷ [])) ≡ 0 = ap (λ k. sum_by (λ (f : CheckedField). width_of d f.of) (drop k (g ∷ []))) (one_is zero) in
      subst (λ low. Stands d (Some f.of) (Some w) (op.slice (stacked (x ∷ [])) (low + width_of d f.of - 1) low)) (sym none)
      (subst (λ y. Stands d (Some f.of) (Some w) y) (sym (ap (λ b. op.slice b (0 + width_of d f.of - 1) 0) (concat-nothing x) ∙ ap (λ k. op.slice x k 0) (omega (arith, wide)) ∙ slice-whole x h.0.2.0))
      (subst (λ (f : CheckedField). Stands d (Some f.of) (Some w) x) same h.0))
    where
      one_is : (k : ℕ) → k + 1 ≡ suc k
      one_is k = omega arith
  field-part (g ∷ []) (w ∷ []) (x ∷ y ∷ xs) zero f v h e few = absurd h.1
  field-part (g ∷ []) (w ∷ u ∷ vs) (x ∷ xs) zero f v h e few = absurd h.1
  field-part (g ∷ k ∷ fields) (w ∷ []) (x ∷ xs) zero f v h e few = absurd h.1
  field-part (g ∷ k ∷ fields) (w ∷ u ∷ vs) (x ∷ []) zero f v h e few = absurd h.1
  field-part (g ∷ k ∷ fields) (w ∷ u ∷ vs) (x ∷ y ∷ xs) zero f v h e few =
      let same : g ≡ f = cc in
      let wide : x.width ≡ width_of d f.of = h.0.2.1 ∙ ap (λ (f : CheckedField). width_of d f.of) same in
      let under = stacked-width k.of (map (λ (f : CheckedField). f.of) fields) u vs y xs h.1 (omega arith) in
      let low : sum_by (λ (f : CheckedField). width_of d f.of) (drop (zero + 1) (g ∷ k ∷ fields)) ≡ (stacked (y ∷ xs)).width =
      ap (λ i. sum_by (λ (f : CheckedField). width_of d f.of) (drop i (g ∷ k ∷ fields))) (one_is zero) ∙ fields-total (k ∷ fields) ∙ sym under.1 in
      subst (λ n. Stands d (Some f.of) (Some w) (op.slice (stacked (x ∷ y ∷ xs)) (n + width_of d f.of - 1) n)) (sym low)
      (subst (λ z. Stands d (Some f.of) (Some w) z) (sym (ap (λ n. op.slice (stacked (x ∷ y ∷ xs)) n (stacked (y ∷ xs)).width) (omega (arith, wide)) ∙ (slice-concat x (stacked (y ∷ xs)) h.0.2.0 under.0).0))
      (subst (λ (f : CheckedField). Stands d (Some f.of) (Some w) x) same h.0))
    where
      one_is : (k : ℕ) → k + 1 ≡ suc k
      one_is k = omega arith
  field-part (g ∷ []) (w ∷ vs) (x ∷ xs) (suc number) f v h e few = absurd (cc)
  field-part (g ∷ k ∷ fields) (w ∷ []) (x ∷ xs) (suc number) f v h e few = absurd h.1
  field-part (g ∷ k ∷ fields) (w ∷ u ∷ vs) (x ∷ []) (suc number) f v h e few = absurd h.1
  field-part (g ∷ k ∷ fields) (w ∷ u ∷ vs) (x ∷ y ∷ xs) (suc number) f v h e few =
      let under = stacked-width k.of (map (λ (f : CheckedField). f.of) fields) u vs y xs h.1 (omega arith) in
      let place = field-place (k ∷ fields) number f e in
      let rest = field-part (k ∷ fields) (u ∷ vs) (y ∷ xs) number f v h.1 e (omega arith) in
      let low : sum_by (λ (f : CheckedField). width_of d f.of) (drop (suc number + 1) (g ∷ k ∷ fields)) ≡ sum_by (λ (f : CheckedField). width_of d f.of) (drop (number + 1) (k ∷ fields)) =
      ap (λ i. sum_by (λ (f : CheckedField). width_of d f.of) (drop i (g ∷ k ∷ fields))) (more_is number) in
      subst (λ n. Stands d (Some f.of) (Some (slice_index_or (u ∷ vs) number v)) (op.slice (stacked (x ∷ y ∷ xs)) (n + width_of d f.of - 1) n)) (sym low)
      (subst (λ z. Stands d (Some f.of) (Some (slice_index_or (u ∷ vs) number v)) z)
      (sym (slice-low x (stacked (y ∷ xs)) (sum_by (λ (f : CheckedField). width_of d f.of) (drop (number + 1) (k ∷ fields)) + width_of d f.of - 1) (sum_by (λ (f : CheckedField). width_of d f.of) (drop (number + 1) (k ∷ fields))) h.0.2.0 under.0
      (omega (arith, some_width d f.of _ _ rest)) (omega (arith, place, fields-total (k ∷ fields), under.1, some_width d f.of _ _ rest)))) rest)
    where
      more_is : (k : ℕ) → suc k + 1 ≡ suc (k + 1)
      more_is k = omega arith

      some_width : (d : Checked) (t : ValueType) (v : Value) (x : BitVector) → Stands d (Some t) (Some v) x → 1 ≤ width_of d t
      some_width d t v x st = subst (λ w. 1 ≤ w) st.2.1 st.2.0.some_bit

  -- an item has the bits of its place
  up-stacked : (ts : List ValueType) (vs : List Value) (xs : List BitVector) → StandAll d ts vs xs → 1 ≤ total d ts → total d ts ≤ 128 → HasWidth (stacked_up xs) (total d ts)
  up-stacked [] vs xs h some few = absurd (omega (arith, some))
  up-stacked (t ∷ ts) [] xs h some few = absurd h
  up-stacked (t ∷ ts) (v ∷ vs) [] h some few = absurd h
  up-stacked (t ∷ ts) (v ∷ vs) (x ∷ xs) h some few = up-width d t ts v vs x xs h few

  item-part : (n : ℕ) (item : ValueType) (vs : List Value) (xs : List BitVector) (index : ℕ) (v : Value) → StandAll d (replicate n item) vs xs → index < n → n * width_of d item ≤ 128 → 1 ≤ width_of d item →
      Stands d (Some item) (Some (slice_index_or vs index v)) (op.slice (stacked_up xs) (index * width_of d item + width_of d item - 1) (index * width_of d item))
  item-part zero item vs xs index v h below few some = absurd (omega arith)
  item-part (suc n) item [] xs index v h below few some = absurd h
  item-part (suc n) item (w ∷ vs) [] index v h below few some = absurd h
  item-part (suc zero) item (w ∷ []) (x ∷ []) zero v h below few some =
      subst (λ y. Stands d (Some item) (Some w) y)
      (sym (ap (λ b. op.slice b (zero * width_of d item + width_of d item - 1) (zero * width_of d item)) (nothing-concat x) ∙ ap₂ (λ u l. op.slice x u l) (omega (arith, h.0.2.1)) (omega arith) ∙ slice-whole x h.0.2.0)) h.0
  item-part (suc zero) item (w ∷ []) (x ∷ y ∷ xs) zero v h below few some = absurd h.1
  item-part (suc zero) item (w ∷ u ∷ vs) (x ∷ xs) zero v h below few some = absurd h.1
  item-part (suc (suc n)) item (w ∷ vs) (x ∷ xs) zero v h below few some =
      let p : suc (suc n) * width_of d item ≡ suc n * width_of d item + width_of d item = omega arith in
      let q : suc n * width_of d item ≡ n * width_of d item + width_of d item = omega arith in
      let above = up-stacked (replicate (suc n) item) vs xs h.1 (omega (arith, total-replicate d (suc n) item, q, some)) (omega (arith, total-replicate d (suc n) item, p, few)) in
      subst (λ y. Stands d (Some item) (Some w) y)
      (sym (ap₂ (λ u l. op.slice (op.concat (stacked_up xs) x) u l) (omega (arith, h.0.2.1)) (omega arith) ∙ (slice-concat (stacked_up xs) x above.0 h.0.2.0).1)) h.0
  item-part (suc zero) item (w ∷ vs) (x ∷ xs) (suc index) v h below few some = absurd (omega arith)
  item-part (suc (suc n)) item (w ∷ vs) (x ∷ xs) (suc index) v h below few some =
      let m : ℕ = width_of d item in
      let p : suc (suc n) * m ≡ suc n * m + m = omega arith in
      let q : suc n * m ≡ n * m + m = omega arith in
      let r : suc index * m ≡ index * m + m = omega arith in
      let above = up-stacked (replicate (suc n) item) vs xs h.1 (omega (arith, total-replicate d (suc n) item, q, some)) (omega (arith, total-replicate d (suc n) item, p, few)) in
      let le = product-le (suc n) m index (omega arith) in
      let rest = item-part (suc n) item vs xs index v h.1 (omega arith) (omega (arith, p, few)) some in
      subst (λ y. Stands d (Some item) (Some (slice_index_or vs index v)) y)
      (sym (ap₂ (λ u l. op.slice (op.concat (stacked_up xs) x) u l) (omega (arith, r, h.0.2.1, some)) (omega (arith, r, h.0.2.1)) ∙
      slice-high (stacked_up xs) x (index * m + m - 1) (index * m) above.0 h.0.2.0 (omega (arith, some)) (omega (arith, le, above.1, total-replicate d (suc n) item, some)))) rest

  -- the parts of a value stand for their bits
  pair-stand : (vs : List Value) (ts : List ValueType) → AllByRecursion (IsType d) ts → Pairwise (IsOf d) vs ts → StandAll d ts vs (map packed vs)
  pair-stand [] [] valid h = tt
  pair-stand [] (t ∷ ts) valid h = absurd h
  pair-stand (v ∷ vs) [] valid h = absurd h
  pair-stand (v ∷ vs) (t ∷ ts) valid h = ((h.0, refl, constant-width v t valid.0 h.0), pair-stand vs ts valid.1 h.1)

  item-of : (y : Value-F Value) (v : Value) (x : BitVector) (n : ℕ) (u : ValueType) (index : ℕ) → PartIsOf d (IsOf d) y (array n u) → packed_part (map-Value Value BitVector packed y) ≡ x → IsType d (array n u) → index < n →
      Stands d (Some u) (Some (slice_index_or (parts_by y) index v)) (op.slice x (index * width_of d u + width_of d u - 1) (index * width_of d u))
  unfolding lengths_of base_of
  item-of (Value-F.Number b) v x n u index h e valid below = let k = ap lengths_of h.0 in absurd (cc)
  item-of (Value-F.Member m b) v x n u index h e valid below = let k = ap lengths_of h.0 in absurd (cc)
  item-of (Value-F.Fields m vs) v x n u index h e valid below = let k = ap lengths_of h.0 in absurd (cc)
  item-of (Value-F.Items vs) v x n u index h e valid below =
      let k : n ∷ u.lengths ≡ length vs ∷ h.0.lengths = ap lengths_of h.1 in
      let count : n ≡ length vs = cc in
      let item : ValueType = u in
      let ok = item-type n (width_of d u) (subst (λ w. (1 ≤ w) × (w ≤ 128)) (sym (array-width d n u)) valid) in
      let bases : u.base ≡ h.0.base = ap base_of h.1 in
      let rest : u.lengths ≡ h.0.lengths = cc in
      let same : u ≡ h.0 = ap₂ (λ b ls. record { base = b; lengths = ls }) bases rest in
      let pairs : Pairwise (IsOf d) vs (replicate n u) = subst (λ (t : ValueType). Pairwise (IsOf d) vs (replicate n t)) (sym same) (subst (λ c. Pairwise (IsOf d) vs (replicate c h.0)) (sym count) h.2) in
      let stand = pair-stand vs (replicate n u) (same_types n u ok) pairs in
      subst (λ y. Stands d (Some u) (Some (slice_index_or vs index v)) (op.slice y (index * width_of d u + width_of d u - 1) (index * width_of d u))) e
      (item-part n u vs (map packed vs) index v stand below (subst (λ w. w ≤ 128) (sym (array-width d n u)) valid.1) ok.0)

  field-of : (y : Value-F Value) (v : Value) (x : BitVector) (struct number : ℕ) (f : CheckedField) → PartIsOf d (IsOf d) y (of_base (base.Struct struct)) → packed_part (map-Value Value BitVector packed y) ≡ x →
      IsType d (of_base (base.Struct struct)) → slice_get (fields_of d struct) number ≡ Some f → Stands d (Some f.of) (Some (slice_index_or (parts_by y) number v))
      (op.slice x (sum_by (λ (f : CheckedField). width_of d f.of) (drop (number + 1) (fields_of d struct)) + width_of d f.of - 1) (sum_by (λ (f : CheckedField). width_of d f.of) (drop (number + 1) (fields_of d struct))))
  unfolding lengths_of base_of
  field-of (Value-F.Number b) v x struct number f h e valid at = let k = ap base_of h.0 in absurd (cc)
  field-of (Value-F.Member m b) v x struct number f h e valid at = let k = ap base_of h.0 in absurd (cc)
  field-of (Value-F.Items vs) v x struct number f h e valid at = let k = ap lengths_of h.1 in absurd (cc)
  field-of (Value-F.Fields m vs) v x struct number f h e valid at =
      let k : base.Struct struct ≡ base.Struct m = ap base_of h.0 in
      let same : struct ≡ m = cc in
      let it = declared-struct d struct valid in
      let s = is.structs struct it.struct it.is in
      let each = subst (λ (o : Option Struct). AllByRecursion (λ (f : CheckedField). IsType d f.of × IsAmong struct f.of.base) (fields_by o)) (sym it.is) (all-each (λ (f : CheckedField). IsType d f.of × IsAmong struct f.of.base) it.struct.fields s.fields) in
      let pairs : Pairwise (IsOf d) vs (map (λ (f : CheckedField). f.of) (fields_of d struct)) = subst (λ k. Pairwise (IsOf d) vs (map (λ (f : CheckedField). f.of) (fields_of d k))) (sym same) h.1 in
      let stand = pair-stand vs (map (λ (f : CheckedField). f.of) (fields_of d struct)) (types_of (fields_of d struct) (first_of (fields_of d struct) struct each)) pairs in
      subst (λ z. Stands d (Some f.of) (Some (slice_index_or vs number v)) (op.slice z (sum_by (λ (f : CheckedField). width_of d f.of) (drop (number + 1) (fields_of d struct)) + width_of d f.of - 1) (sum_by (λ (f : CheckedField). width_of d f.of) (drop (number + 1) (fields_of d struct))))) e
      (field-part (fields_of d struct) vs (map packed vs) number f v stand at (subst (λ w. w ≤ 128) (sym (struct-total d is struct valid)) valid.1))

  -- a part has the bits of its place
  take-stands : (s : Selection) (t u : ValueType) (v : Value) (x : BitVector) → IsType d t → Takes d s t u → Stands d (Some t) (Some v) x →
      Stands d (Some u) (Some (selected v s)) (op.slice x (lowest_bit s + part_width s - 1) (lowest_bit s))
  take-stands (selection.Field number lowest width) t u v x valid h st =
      let of : IsOf d v (of_base (base.Struct h.0)) = subst (IsOf d v) h.2 st.0 in
      let it = field-of (out-Value v) v x h.0 number h.1 (open-IsOf d v (out-Value v) (roll-out-Value v) (of_base (base.Struct h.0)) of) (sym (packed-roll (out-Value v)) ∙ ap packed (roll-out-Value v) ∙ st.1) (subst (IsType d) h.2 valid) h.3 in
      subst (λ (q : ValueType). Stands d (Some q) (Some (slice_index_or (parts_by (out-Value v)) number v)) (op.slice x (lowest + width - 1) lowest)) (sym h.4)
      (subst (λ k. Stands d (Some h.1.of) (Some (slice_index_or (parts_by (out-Value v)) number v)) (op.slice x (k + width - 1) k)) (sym h.5)
      (subst (λ w. Stands d (Some h.1.of) (Some (slice_index_or (parts_by (out-Value v)) number v)) (op.slice x (lowest_of d h.0 number + w - 1) (lowest_of d h.0 number))) (sym h.6) it))
  take-stands (selection.Item index width) t u v x valid h st =
      let of : IsOf d v (array h.0 u) = subst (IsOf d v) h.1 st.0 in
      let it = item-of (out-Value v) v x h.0 u index (open-IsOf d v (out-Value v) (roll-out-Value v) (array h.0 u) of) (sym (packed-roll (out-Value v)) ∙ ap packed (roll-out-Value v) ∙ st.1) (subst (IsType d) h.1 valid) h.2 in
      subst (λ w. Stands d (Some u) (Some (slice_index_or (parts_by (out-Value v)) index v)) (op.slice x (index * w + w - 1) (index * w))) (sym h.3) it
  take-stands (selection.Bits high low) t u v x valid h st =
      let hx : HasWidth x h.0 = (st.2.0, st.2.1 ∙ ap (width_of d) h.1 ∙ width-bits d h.0) in
      let r = slice-HasWidth x high low hx.0 h.2 (omega (arith, h.3, hx.1)) in
      let e : low + (high - low + 1) - 1 ≡ high = omega (arith, h.2) in
      subst (λ (q : ValueType). Stands d (Some q) (Some (value.Number (op.slice (packed v) high low))) (op.slice x (low + (high - low + 1) - 1) low)) (sym h.4)
      (subst (λ k. Stands d (Some (bits (high - low + 1))) (Some (value.Number (op.slice (packed v) high low))) (op.slice x k low)) (sym e)
      (number-stands d (high - low + 1) (op.slice x high low) (op.slice (packed v) high low) (ap (λ y. op.slice y high low) st.1) r))

  -- a part of a part has the bits of its place
  pub takes-stands : (selections : List Selection) (t part : ValueType) (v : Value) (x : BitVector) → IsType d t → TakesAll d selections t part → Stands d (Some t) (Some v) x →
      Stands d (Some part) (Some (all_selected v selections)) (op.slice x (lowest_of_all selections + width_of d part - 1) (lowest_of_all selections))
  takes-stands [] t part v x valid h st =
      subst (λ (u : ValueType). Stands d (Some u) (Some v) (op.slice x (0 + width_of d u - 1) 0)) (sym h)
      (subst (λ y. Stands d (Some t) (Some v) y) (sym (ap (λ k. op.slice x k 0) (omega (arith, st.2.1)) ∙ slice-whole x st.2.0)) st)
  takes-stands (s ∷ selections) t part v x valid h st =
      let one = take-fit s t h.0 valid h.1 in
      let rest = takes-fit selections h.0 part one.2 h.2 in
      let first = take-stands s t h.0 v x valid h.1 st in
      let inner = takes-stands selections h.0 part (selected v s) (op.slice x (lowest_bit s + part_width s - 1) (lowest_bit s)) one.2 h.2 first in
      subst (λ y. Stands d (Some part) (Some (all_selected (selected v s) selections)) y)
      (slice-slice x (lowest_bit s + part_width s - 1) (lowest_bit s) (lowest_of_all selections + width_of d part - 1) (lowest_of_all selections) (omega (arith, rest.2.0)) (omega (arith, rest.2.0, rest.3, one.1)) ∙
      ap (λ k. op.slice x k (lowest_bit s + lowest_of_all selections)) (omega (arith, rest.2.0)))
      inner

  -- a part that can be replaced lies in the whole, and is replaced among its bits
  pub replaces-fit : (s : Selection) (t part : ValueType) → IsType d t → Replaces d s t part → (lowest_bit s + part_width s ≤ width_of d t) × (part_width s ≡ width_of d part)
  replaces-fit (selection.Field number lowest width) t part valid h = let one = take-fit (selection.Field number lowest width) t part valid h in (one.0, one.1)
  replaces-fit (selection.Item index width) t part valid h = let one = take-fit (selection.Item index width) t part valid h in (one.0, one.1)
  replaces-fit (selection.Bits high low) t part valid h = absurd h

  -- fields of which one is replaced
  down-stacked : (ts : List ValueType) (vs : List Value) (xs : List BitVector) → StandAll d ts vs xs → 1 ≤ total d ts → total d ts ≤ 128 → HasWidth (stacked xs) (total d ts)
  down-stacked [] vs xs h some few = absurd (omega (arith, some))
  down-stacked (t ∷ ts) [] xs h some few = absurd h
  down-stacked (t ∷ ts) (v ∷ vs) [] h some few = absurd h
  down-stacked (t ∷ ts) (v ∷ vs) (x ∷ xs) h some few = stacked-width t ts v vs x xs h few

  abbrev low_of : List CheckedField → ℕ → ℕ
  low_of fields number = sum_by (λ (f : CheckedField). width_of d f.of) (drop (number + 1) fields)

  one_is : (k : ℕ) → k + 1 ≡ suc k
  one_is k = omega arith

  more_is : (k : ℕ) → suc k + 1 ≡ suc (k + 1)
  more_is k = omega arith

  some_bits : (t : ValueType) (v : Value) (x : BitVector) → Stands d (Some t) (Some v) x → 1 ≤ width_of d t
  some_bits t v x st = subst (λ w. 1 ≤ w) st.2.1 st.2.0.some_bit

  fields-replaced : (fields : List CheckedField) (vs : List Value) (xs : List BitVector) (number : ℕ) (f : CheckedField) (new : Value) (y : BitVector) → StandAll d (map (λ (f : CheckedField). f.of) fields) vs xs → slice_get fields number ≡ Some f →
      total d (map (λ (f : CheckedField). f.of) fields) ≤ 128 → Stands d (Some f.of) (Some new) y →
      StandAll d (map (λ (f : CheckedField). f.of) fields) (slice_set vs number new) (slice_set xs number y) ×
      (stacked (slice_set xs number y) ≡ with_part (range_at (low_of fields number) (width_of d f.of)) (total d (map (λ (f : CheckedField). f.of) fields)) (stacked xs) y)
  fields-replaced [] vs xs number f new y h e few sn = absurd (cc)
  fields-replaced (g ∷ fields) [] xs number f new y h e few sn = absurd h
  fields-replaced (g ∷ fields) (v ∷ vs) [] number f new y h e few sn = absurd h
  fields-replaced (g ∷ []) (v ∷ []) (x ∷ []) zero f new y h e few sn =
      let same : f ≡ g = cc in
      let none : low_of (g ∷ []) zero ≡ 0 = ap (λ k. sum_by (λ (f : CheckedField). width_of d f.of) (drop k (g ∷ []))) (one_is zero) in
      let wide : width_of d f.of ≡ width_of d g.of + 0 = ap (λ (f : CheckedField). width_of d f.of) same ∙ omega arith in (
        (subst (λ (f : CheckedField). Stands d (Some f.of) (Some new) y) same sn, tt),
        concat-nothing y ∙ sym (replace-all (stacked (x ∷ [])) y (width_of d f.of)) ∙ ap₂ (λ l k. with_part (range_at l (width_of d f.of)) k (stacked (x ∷ [])) y) (sym none) wide,
      )
  fields-replaced (g ∷ []) (v ∷ []) (x ∷ z ∷ xs) zero f new y h e few sn = absurd h.1
  fields-replaced (g ∷ []) (v ∷ u ∷ vs) (x ∷ xs) zero f new y h e few sn = absurd h.1
  fields-replaced (g ∷ k ∷ fields) (v ∷ []) (x ∷ xs) zero f new y h e few sn = absurd h.1
  fields-replaced (g ∷ k ∷ fields) (v ∷ u ∷ vs) (x ∷ []) zero f new y h e few sn = absurd h.1
  fields-replaced (g ∷ k ∷ fields) (v ∷ u ∷ vs) (x ∷ z ∷ xs) zero f new y h e few sn =
      let same : f ≡ g = cc in
      let lower = stacked-width k.of (map (λ (f : CheckedField). f.of) fields) u vs z xs h.1 (omega arith) in
      let low : (stacked (z ∷ xs)).width ≡ low_of (g ∷ k ∷ fields) zero =
      lower.1 ∙ sym (ap (λ i. sum_by (λ (f : CheckedField). width_of d f.of) (drop i (g ∷ k ∷ fields))) (one_is zero) ∙ fields-total (k ∷ fields)) in
      let own : x.width ≡ width_of d f.of = h.0.2.1 ∙ sym (ap (λ (f : CheckedField). width_of d f.of) same) in
      let all : x.width + (stacked (z ∷ xs)).width ≡ total d (map (λ (f : CheckedField). f.of) (g ∷ k ∷ fields)) = omega (arith, h.0.2.1, lower.1) in (
        (subst (λ (f : CheckedField). Stands d (Some f.of) (Some new) y) same sn, h.1),
        sym (replace-upper x (stacked (z ∷ xs)) y h.0.2.0 lower.0) ∙
            ap₂ (λ l w. with_part (range_at l w) (x.width + (stacked (z ∷ xs)).width) (stacked (x ∷ z ∷ xs)) y) low own ∙
            ap (λ w. with_part (range_at (low_of (g ∷ k ∷ fields) zero) (width_of d f.of)) w (stacked (x ∷ z ∷ xs)) y) all,
      )
  fields-replaced (g ∷ []) (v ∷ vs) (x ∷ xs) (suc number) f new y h e few sn = absurd (cc)
  fields-replaced (g ∷ k ∷ fields) (v ∷ []) (x ∷ xs) (suc number) f new y h e few sn = absurd h.1
  fields-replaced (g ∷ k ∷ fields) (v ∷ u ∷ vs) (x ∷ []) (suc number) f new y h e few sn = absurd h.1
  fields-replaced (g ∷ k ∷ fields) (v ∷ u ∷ vs) (x ∷ z ∷ xs) (suc number) f new y h e few sn =
      let lower = stacked-width k.of (map (λ (f : CheckedField). f.of) fields) u vs z xs h.1 (omega arith) in
      let place = field-place (k ∷ fields) number f e in
      let rest = fields-replaced (k ∷ fields) (u ∷ vs) (z ∷ xs) number f new y h.1 e (omega arith) sn in
      let low : low_of (k ∷ fields) number ≡ low_of (g ∷ k ∷ fields) (suc number) = sym (ap (λ i. sum_by (λ (f : CheckedField). width_of d f.of) (drop i (g ∷ k ∷ fields))) (more_is number)) in
      let all : x.width + (stacked (z ∷ xs)).width ≡ total d (map (λ (f : CheckedField). f.of) (g ∷ k ∷ fields)) = omega (arith, h.0.2.1, lower.1) in (
        (h.0, rest.0),
        ap (op.concat x) (rest.1 ∙ ap (λ w. with_part (range_at (low_of (k ∷ fields) number) (width_of d f.of)) w (stacked (z ∷ xs)) y) (sym lower.1)) ∙
            sym (replace-below x (stacked (z ∷ xs)) y h.0.2.0 lower.0 (low_of (k ∷ fields) number) (width_of d f.of) (omega (arith, place, fields-total (k ∷ fields), lower.1))) ∙
            ap₂ (λ l w. with_part (range_at l (width_of d f.of)) w (stacked (x ∷ z ∷ xs)) y) low all,
      )

  -- items of which one is replaced
  items-replaced : (n : ℕ) (item : ValueType) (vs : List Value) (xs : List BitVector) (index : ℕ) (new : Value) (y : BitVector) → StandAll d (replicate n item) vs xs → index < n → n * width_of d item ≤ 128 → 1 ≤ width_of d item →
      Stands d (Some item) (Some new) y → StandAll d (replicate n item) (slice_set vs index new) (slice_set xs index y) ×
      (stacked_up (slice_set xs index y) ≡ with_part (range_at (index * width_of d item) (width_of d item)) (n * width_of d item) (stacked_up xs) y)
  items-replaced zero item vs xs index new y h below few some sn = absurd (omega arith)
  items-replaced (suc n) item [] xs index new y h below few some sn = absurd h
  items-replaced (suc n) item (v ∷ vs) [] index new y h below few some sn = absurd h
  items-replaced (suc zero) item (v ∷ []) (x ∷ []) zero new y h below few some sn =
      let none : 0 ≡ zero * width_of d item = omega arith in
      let once : width_of d item ≡ suc zero * width_of d item = omega arith in (
        (sn, tt),
        nothing-concat y ∙ sym (replace-all (stacked_up (x ∷ [])) y (width_of d item)) ∙
            ap₂ (λ l k. with_part (range_at l (width_of d item)) k (stacked_up (x ∷ [])) y) none once,
      )
  items-replaced (suc zero) item (v ∷ []) (x ∷ z ∷ xs) zero new y h below few some sn = absurd h.1
  items-replaced (suc zero) item (v ∷ u ∷ vs) (x ∷ xs) zero new y h below few some sn = absurd h.1
  items-replaced (suc (suc n)) item (v ∷ vs) (x ∷ xs) zero new y h below few some sn =
      let m : ℕ = width_of d item in
      let p : suc (suc n) * m ≡ suc n * m + m = omega arith in
      let q : suc n * m ≡ n * m + m = omega arith in
      let above = up-stacked (replicate (suc n) item) vs xs h.1 (omega (arith, total-replicate d (suc n) item, q, some)) (omega (arith, total-replicate d (suc n) item, p, few)) in
      let own : x.width ≡ m = h.0.2.1 in
      let all : (stacked_up xs).width + x.width ≡ suc (suc n) * m = omega (arith, above.1, total-replicate d (suc n) item, own, p) in
      let none : 0 ≡ zero * m = omega arith in (
        (sn, h.1),
        sym (replace-lower (stacked_up xs) x y above.0 h.0.2.0) ∙
            ap₂ (λ l w. with_part (range_at l w) ((stacked_up xs).width + x.width) (stacked_up (x ∷ xs)) y) none own ∙
            ap (λ w. with_part (range_at (zero * m) m) w (stacked_up (x ∷ xs)) y) all,
      )
  items-replaced (suc zero) item (v ∷ vs) (x ∷ xs) (suc index) new y h below few some sn = absurd (omega arith)
  items-replaced (suc (suc n)) item (v ∷ vs) (x ∷ xs) (suc index) new y h below few some sn =
      let m : ℕ = width_of d item in
      let p : suc (suc n) * m ≡ suc n * m + m = omega arith in
      let q : suc n * m ≡ n * m + m = omega arith in
      let r : suc index * m ≡ index * m + m = omega arith in
      let above = up-stacked (replicate (suc n) item) vs xs h.1 (omega (arith, total-replicate d (suc n) item, q, some)) (omega (arith, total-replicate d (suc n) item, p, few)) in
      let le = product-le (suc n) m index (omega arith) in
      let wide : (stacked_up xs).width ≡ suc n * m = above.1 ∙ total-replicate d (suc n) item in
      let rest = items-replaced (suc n) item vs xs index new y h.1 (omega arith) (omega (arith, p, few)) some sn in
      let own : x.width ≡ m = h.0.2.1 in
      let lowest : index * m + x.width ≡ suc index * m = omega (arith, r, own) in
      let all : (stacked_up xs).width + x.width ≡ suc (suc n) * m = omega (arith, wide, own, p) in (
        (h.0, rest.0),
        ap (λ a. op.concat a x) (rest.1 ∙ ap (λ w. with_part (range_at (index * m) m) w (stacked_up xs) y) (sym wide)) ∙
            sym (replace-above (stacked_up xs) x y above.0 h.0.2.0 (index * m) m (omega (arith, le, wide))) ∙
            ap₂ (λ l w. with_part (range_at l m) w (stacked_up (x ∷ xs)) y) lowest all,
      )

  field-replaced-of : (z : Value-F Value) (new : Value) (x y : BitVector) (struct number : ℕ) (f : CheckedField) → PartIsOf d (IsOf d) z (of_base (base.Struct struct)) → packed_part (map-Value Value BitVector packed z) ≡ x →
      IsType d (of_base (base.Struct struct)) → slice_get (fields_of d struct) number ≡ Some f → Stands d (Some f.of) (Some new) y →
      Stands d (Some (of_base (base.Struct struct))) (Some (with_parts z (slice_set (parts_by z) number new))) (with_part (range_at (low_of (fields_of d struct) number) (width_of d f.of)) (width_of d (of_base (base.Struct struct))) x y)
  unfolding lengths_of base_of
  field-replaced-of (Value-F.Number b) new x y struct number f h e valid at sn = let k = ap base_of h.0 in absurd (cc)
  field-replaced-of (Value-F.Member m b) new x y struct number f h e valid at sn = let k = ap base_of h.0 in absurd (cc)
  field-replaced-of (Value-F.Items vs) new x y struct number f h e valid at sn = let k = ap lengths_of h.1 in absurd (cc)
  field-replaced-of (Value-F.Fields m vs) new x y struct number f h e valid at sn =
      let k : base.Struct struct ≡ base.Struct m = ap base_of h.0 in
      let same : struct ≡ m = cc in
      let ts : List ValueType = map (λ (f : CheckedField). f.of) (fields_of d struct) in
      let it = declared-struct d struct valid in
      let s = is.structs struct it.struct it.is in
      let each = subst (λ (o : Option Struct). AllByRecursion (λ (f : CheckedField). IsType d f.of × IsAmong struct f.of.base) (fields_by o)) (sym it.is) (all-each (λ (f : CheckedField). IsType d f.of × IsAmong struct f.of.base) it.struct.fields s.fields) in
      let pairs : Pairwise (IsOf d) vs ts = subst (λ k. Pairwise (IsOf d) vs (map (λ (f : CheckedField). f.of) (fields_of d k))) (sym same) h.1 in
      let whole : total d ts ≡ width_of d (of_base (base.Struct struct)) = struct-total d is struct valid in
      let made = fields-replaced (fields_of d struct) vs (map packed vs) number f new y (pair-stand vs ts (types_of (fields_of d struct) (first_of (fields_of d struct) struct each)) pairs) at (omega (arith, whole, valid.1)) sn in
      let both = stand-stacked d ts (slice_set vs number new) (slice_set (map packed vs) number y) made.0 in
      let bits_are : stacked (slice_set (map packed vs) number y) ≡ with_part (range_at (low_of (fields_of d struct) number) (width_of d f.of)) (width_of d (of_base (base.Struct struct))) x y =
      made.1 ∙ ap₂ (λ w z. with_part (range_at (low_of (fields_of d struct) number) (width_of d f.of)) w z y) whole e in
      let wide = down-stacked ts (slice_set vs number new) (slice_set (map packed vs) number y) made.0 (omega (arith, whole, valid.0)) (omega (arith, whole, valid.1)) in
      subst (λ (k : ℕ). Stands d (Some (of_base (base.Struct struct))) (Some (value.Fields k (slice_set vs number new))) (with_part (range_at (low_of (fields_of d struct) number) (width_of d f.of)) (width_of d (of_base (base.Struct struct))) x y)) same (
        close-IsOf d (value.Fields struct (slice_set vs number new)) (Value-F.Fields struct (slice_set vs number new)) (value.rolls-Fields struct (slice_set vs number new)) (of_base (base.Struct struct)) (refl, both.0),
        packed-Fields struct (slice_set vs number new) ∙ both.1 ∙ bits_are,
        subst (λ z. HasWidth z (width_of d (of_base (base.Struct struct)))) bits_are (wide.0, wide.1 ∙ whole),
      )

  same_length : (n : ℕ) (u : ValueType) → length (replicate n u) ≡ n
  same_length zero u = refl
  same_length (suc n) u = ap suc (same_length n u)

  item-replaced-of : (z : Value-F Value) (new : Value) (x y : BitVector) (n : ℕ) (u : ValueType) (index : ℕ) → PartIsOf d (IsOf d) z (array n u) → packed_part (map-Value Value BitVector packed z) ≡ x → IsType d (array n u) → index < n →
      Stands d (Some u) (Some new) y → Stands d (Some (array n u)) (Some (with_parts z (slice_set (parts_by z) index new))) (with_part (range_at (index * width_of d u) (width_of d u)) (width_of d (array n u)) x y)
  unfolding lengths_of base_of
  item-replaced-of (Value-F.Number b) new x y n u index h e valid below sn = let k = ap lengths_of h.0 in absurd (cc)
  item-replaced-of (Value-F.Member m b) new x y n u index h e valid below sn = let k = ap lengths_of h.0 in absurd (cc)
  item-replaced-of (Value-F.Fields m vs) new x y n u index h e valid below sn = let k = ap lengths_of h.0 in absurd (cc)
  item-replaced-of (Value-F.Items vs) new x y n u index h e valid below sn =
      let k : n ∷ u.lengths ≡ length vs ∷ h.0.lengths = ap lengths_of h.1 in
      let count : n ≡ length vs = cc in
      let ok = item-type n (width_of d u) (subst (λ w. (1 ≤ w) × (w ≤ 128)) (sym (array-width d n u)) valid) in
      let bases : u.base ≡ h.0.base = ap base_of h.1 in
      let rest : u.lengths ≡ h.0.lengths = cc in
      let same : u ≡ h.0 = ap₂ (λ b ls. record { base = b; lengths = ls }) bases rest in
      let pairs : Pairwise (IsOf d) vs (replicate n u) = subst (λ (t : ValueType). Pairwise (IsOf d) vs (replicate n t)) (sym same) (subst (λ c. Pairwise (IsOf d) vs (replicate c h.0)) (sym count) h.2) in
      let made = items-replaced n u vs (map packed vs) index new y (pair-stand vs (replicate n u) (same_types n u ok) pairs) below (subst (λ w. w ≤ 128) (sym (array-width d n u)) valid.1) ok.0 sn in
      let bits_are : stacked_up (slice_set (map packed vs) index y) ≡ with_part (range_at (index * width_of d u) (width_of d u)) (width_of d (array n u)) x y =
      made.1 ∙ ap₂ (λ w z. with_part (range_at (index * width_of d u) (width_of d u)) w z y) (array-width d n u) e in
      let size : length (slice_set (map packed vs) index y) ≡ n = sym (stand-up d (replicate n u) (slice_set vs index new) (slice_set (map packed vs) index y) made.0).3 ∙ same_length n u in
      let it = items-stand d u (slice_set vs index new) (slice_set (map packed vs) index y) (subst (λ c. IsType d (array c u)) (sym size) valid) (subst (λ c. StandAll d (replicate c u) (slice_set vs index new) (slice_set (map packed vs) index y)) (sym size) made.0) in
      subst (λ z. Stands d (Some (array n u)) (Some (value.Items (slice_set vs index new))) z) bits_are
      (subst (λ c. Stands d (Some (array c u)) (Some (value.Items (slice_set vs index new))) (stacked_up (slice_set (map packed vs) index y))) size it)

  pub updated-stands : (s : Selection) (t part : ValueType) (v new : Value) (x y : BitVector) → IsType d t → Replaces d s t part → Stands d (Some t) (Some v) x → Stands d (Some part) (Some new) y →
      Stands d (Some t) (Some (updated v s new)) (with_part (range_at (lowest_bit s) (part_width s)) (width_of d t) x y)
  updated-stands (selection.Field number lowest width) t part v new x y valid h st sn =
      let ok : IsType d (of_base (base.Struct h.0)) = subst (IsType d) h.2 valid in
      let of : IsOf d v (of_base (base.Struct h.0)) = subst (IsOf d v) h.2 st.0 in
      let it = field-replaced-of (out-Value v) new x y h.0 number h.1 (open-IsOf d v (out-Value v) (roll-out-Value v) (of_base (base.Struct h.0)) of) (sym (packed-roll (out-Value v)) ∙ ap packed (roll-out-Value v) ∙ st.1) ok h.3
      (subst (λ (q : ValueType). Stands d (Some q) (Some new) y) h.4 sn) in
      subst (λ (q : ValueType). Stands d (Some q) (Some (updated v (selection.Field number lowest width) new)) (with_part (range_at lowest width) (width_of d q) x y)) (sym h.2)
      (subst (λ k. Stands d (Some (of_base (base.Struct h.0))) (Some (updated v (selection.Field number lowest width) new)) (with_part (range_at k width) (width_of d (of_base (base.Struct h.0))) x y)) (sym h.5)
      (subst (λ w. Stands d (Some (of_base (base.Struct h.0))) (Some (updated v (selection.Field number lowest width) new)) (with_part (range_at (lowest_of d h.0 number) w) (width_of d (of_base (base.Struct h.0))) x y)) (sym h.6) it))
  updated-stands (selection.Item index width) t part v new x y valid h st sn =
      let ok : IsType d (array h.0 part) = subst (IsType d) h.1 valid in
      let of : IsOf d v (array h.0 part) = subst (IsOf d v) h.1 st.0 in
      let it = item-replaced-of (out-Value v) new x y h.0 part index (open-IsOf d v (out-Value v) (roll-out-Value v) (array h.0 part) of) (sym (packed-roll (out-Value v)) ∙ ap packed (roll-out-Value v) ∙ st.1) ok h.2 sn in
      subst (λ (q : ValueType). Stands d (Some q) (Some (updated v (selection.Item index width) new)) (with_part (range_at (index * width) width) (width_of d q) x y)) (sym h.1)
      (subst (λ w. Stands d (Some (array h.0 part)) (Some (updated v (selection.Item index width) new)) (with_part (range_at (index * w) w) (width_of d (array h.0 part)) x y)) (sym h.3) it)
  updated-stands (selection.Bits high low) t part v new x y valid h st sn = absurd h
