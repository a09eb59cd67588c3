-- Array types and their numbers, as one more is met.
use Rattle.std.proofs.Common.{◌≡◌, ◌≢◌, ◌⊎◌, inl, inr, ℕ, zero, suc, ◌+◌, ◌<◌, ◌≤◌, ◌^◌, ltb, true, false, List, [], ◌∷◌, ◌++◌, length, take, drop, get_or, Some, None, refl, ap, ap₂, sym, ◌∙◌, subst, arith, length-append}
use Rattle.std.specs.Int.{from_le_bytes, to_le_bytes, w32}
use Rattle.std.proofs.lemmas.Nat.{from_le_bytes-to_le_bytes_4}
use Rattle.std.proofs.lemmas.Bool.{ltb-true, ltb-false}
use Rattle.koika_check.specs.inner.Shapes.{AreArrays, AreShapes, Denotes, IsArray, IsNumbered, IsShape, array_types, key_of, number_in, tag_of, type_of_shape}
use Rattle.koika_check.specs.Types.{array, bits, of_base}
use Rattle.koika_check.specs.declared.shapes.ArrayShape.{ArrayShape}
use Rattle.koika_check.specs.declared.shapes.Shapes.{Shapes}
use Rattle.kw_base.specs.Names.{number_of}
use Rattle.std.specs.Str.{bytes_eq}
use Rattle.std.proofs.lemmas.List.{get_or-map, length-map, map-append}
use Rattle.std.proofs.lemmas.List.Quantifiers.{position-Some}
use Rattle.koika_check.proofs.Positions.{not_there, same-is}
use Rattle.koika_check.specs.declared.shapes.Shape.{Shape}
use Rattle.koika_check.specs.declared.shapes.Shape.TheVariants as shape
use Rattle.koika_check.specs.declared.typed.BaseType.{BaseType}
use Rattle.koika_check.specs.declared.typed.BaseType.TheVariants as base
use Rattle.koika_check.specs.declared.typed.ValueType.{ValueType}

-- one more array type goes last
pub array_types-push : (before : List ValueType) (arrays : List ArrayShape) (a : ArrayShape) →
    array_types before (arrays ++ a ∷ []) ≡ array_types before arrays ++ array a.length (type_of_shape (array_types before arrays) a.element) ∷ []
array_types-push before [] a = refl
array_types-push before (b ∷ arrays) a = array_types-push (before ++ array b.length (type_of_shape before b.element) ∷ []) arrays a

pub length-array_types : (before : List ValueType) (arrays : List ArrayShape) → length (array_types before arrays) ≡ length before + length arrays
length-array_types before [] = omega arith
length-array_types before (b ∷ arrays) =
    length-array_types (before ++ array b.length (type_of_shape before b.element) ∷ []) arrays ∙ omega (arith, length-append before (array b.length (type_of_shape before b.element) ∷ []))

-- what was known keeps its type
pub IsShape-push : (n m : ℕ) (s : Shape) → n ≤ m → IsShape n s → IsShape m s
IsShape-push n m (shape.Bits w) le h = h
IsShape-push n m (shape.Enum k) le h = h
IsShape-push n m (shape.Struct k) le h = h
IsShape-push n m (shape.Array k) le h = omega (arith, h, le)

pub get-push : {X : Type 0} (xs : List X) (x d : X) (i : ℕ) → i < length xs → get_or (xs ++ x ∷ []) i d ≡ get_or xs i d
get-push [] x d i lt = absurd (omega (arith, lt))
get-push (y ∷ xs) x d zero lt = refl
get-push (y ∷ xs) x d (suc i) lt = get-push xs x d i (omega (arith, lt))

pub get-last : {X : Type 0} (xs : List X) (x d : X) (i : ℕ) → i ≡ length xs → get_or (xs ++ x ∷ []) i d ≡ x
get-last [] x d i e = rw e
get-last (y ∷ xs) x d zero e = absurd (omega (arith, e))
get-last (y ∷ xs) x d (suc i) e = get-last xs x d i (omega (arith, e))

pub type-push : (types : List ValueType) (t : ValueType) (s : Shape) → IsShape (length types) s → type_of_shape (types ++ t ∷ []) s ≡ type_of_shape types s
type-push types t (shape.Bits w) h = refl
type-push types t (shape.Enum k) h = refl
type-push types t (shape.Struct k) h = refl
type-push types t (shape.Array k) h = get-push types t (bits 0) k h

-- what is known has one shape
same_items : (l m : ℕ) (s t : ValueType) → array l s ≡ array m t → (l ≡ m) × (s ≡ t)
same_items l m s t e = (
  elim_cons (ap (λ (u : ValueType). u.lengths) e),
  ap₂ (λ b ls. typed b ls) (ap (λ (u : ValueType). u.base) e) (elim_rest (ap (λ (u : ValueType). u.lengths) e)),
)
  where
    typed : BaseType → List ℕ → ValueType
    typed b ls = record { base = b; lengths = ls }

    elim_cons : {l m : ℕ} {ls ms : List ℕ} → l ∷ ls ≡ m ∷ ms → l ≡ m
    elim_cons e = cc

    elim_rest : {l m : ℕ} {ls ms : List ℕ} → l ∷ ls ≡ m ∷ ms → ls ≡ ms
    elim_rest e = cc

no_array : (b : BaseType) (types : List ValueType) (k : ℕ) → AreArrays types → k < length types → of_base b ≡ get_or types k (bits 0) → ⊥
no_array b types k a lt e = apart (ap (λ (u : ValueType). u.lengths) (e ∙ (a.each k lt).is))
  where
    apart : {l : ℕ} {ls : List ℕ} → [] ≡ l ∷ ls → ⊥
    apart e = cc

same_base : (b c : BaseType) → of_base b ≡ of_base c → b ≡ c
same_base b c e = ap (λ (u : ValueType). u.base) e

pub one_shape : (types : List ValueType) (s t : Shape) → AreArrays types → IsShape (length types) s → IsShape (length types) t → type_of_shape types s ≡ type_of_shape types t → s ≡ t
one_shape types (shape.Bits w) (shape.Bits v) a h k e = let b = same_base (base.Bits w) (base.Bits v) e in cc
one_shape types (shape.Bits w) (shape.Enum v) a h k e = let b = same_base (base.Bits w) (base.Enum v) e in cc
one_shape types (shape.Bits w) (shape.Struct v) a h k e = let b = same_base (base.Bits w) (base.Struct v) e in cc
one_shape types (shape.Enum w) (shape.Bits v) a h k e = let b = same_base (base.Enum w) (base.Bits v) e in cc
one_shape types (shape.Enum w) (shape.Enum v) a h k e = let b = same_base (base.Enum w) (base.Enum v) e in cc
one_shape types (shape.Enum w) (shape.Struct v) a h k e = let b = same_base (base.Enum w) (base.Struct v) e in cc
one_shape types (shape.Struct w) (shape.Bits v) a h k e = let b = same_base (base.Struct w) (base.Bits v) e in cc
one_shape types (shape.Struct w) (shape.Enum v) a h k e = let b = same_base (base.Struct w) (base.Enum v) e in cc
one_shape types (shape.Struct w) (shape.Struct v) a h k e = let b = same_base (base.Struct w) (base.Struct v) e in cc
one_shape types (shape.Bits w) (shape.Array v) a h k e = absurd (no_array (base.Bits w) types v a k e)
one_shape types (shape.Enum w) (shape.Array v) a h k e = absurd (no_array (base.Enum w) types v a k e)
one_shape types (shape.Struct w) (shape.Array v) a h k e = absurd (no_array (base.Struct w) types v a k e)
one_shape types (shape.Array w) (shape.Bits v) a h k e = absurd (no_array (base.Bits v) types w a h (sym e))
one_shape types (shape.Array w) (shape.Enum v) a h k e = absurd (no_array (base.Enum v) types w a h (sym e))
one_shape types (shape.Array w) (shape.Struct v) a h k e = absurd (no_array (base.Struct v) types w a h (sym e))
one_shape types (shape.Array w) (shape.Array v) a h k e = ap shape.Array (a.distinct w v h k e)

pub le_split : (i n : ℕ) → i ≤ n → (i < n) ⊎ (i ≡ n)
le_split i n h = elim (ltb i n) as (λ b. ltb i n ≡ b → (i < n) ⊎ (i ≡ n)) [ true ↦ λ e. inl (ltb-true i n e) | false ↦ λ e. inr (omega (arith, h, ltb-false i n e)) ] refl

-- one more type that isn't there is an array of its own
pub AreArrays-push : (types : List ValueType) (t : ValueType) → AreArrays types → IsArray t → ((i : ℕ) → i < length types → get_or types i (bits 0) ≢ t) → AreArrays (types ++ t ∷ [])
AreArrays-push types t a is new = record {
  each = λ i lt. split i (more i lt) (λ h. subst IsArray (sym (get-push types t (bits 0) i h)) (a.each i h)) (λ h. subst IsArray (sym (get-last types t (bits 0) i h)) is);
  distinct = λ i j lt lt' e.
      split i (more i lt)
      (λ h. split j (more j lt')
      (λ h'. a.distinct i j h h' (sym (get-push types t (bits 0) i h) ∙ e ∙ get-push types t (bits 0) j h'))
      (λ h'. absurd (new i h (sym (get-push types t (bits 0) i h) ∙ e ∙ get-last types t (bits 0) j h'))))
      (λ h. split j (more j lt')
      (λ h'. absurd (new j h' (sym (get-push types t (bits 0) j h') ∙ sym e ∙ get-last types t (bits 0) i h)))
      (λ h'. h ∙ sym h'));
}
  where
    split : {P : Type 0} (i : ℕ) → (i < length types) ⊎ (i ≡ length types) → (i < length types → P) → (i ≡ length types → P) → P
    split i h f g = elim h [ inl l ↦ f l | inr e ↦ g e ]

    more : (i : ℕ) → i < length (types ++ t ∷ []) → (i < length types) ⊎ (i ≡ length types)
    more i lt = below_or (omega (arith, lt, length-append types (t ∷ [])))
      where
        below_or : i < length types + 1 → (i < length types) ⊎ (i ≡ length types)
        below_or h = le_split i (length types) (omega (arith, h))

-- the bytes of a key tell which array type it is
pub one_key : (a b : ArrayShape) → number_in a.element < 2 ^ 32 → a.length < 2 ^ 32 → number_in b.element < 2 ^ 32 → b.length < 2 ^ 32 → key_of a ≡ key_of b → (a.element ≡ b.element) × (a.length ≡ b.length)
one_key a b fa la fb lb e = (
  one_element a.element b.element (head_of e) (sym (from_le_bytes-to_le_bytes_4 _ fa) ∙ ap (λ k. from_le_bytes w32 (take 4 (drop 1 k))) e ∙ from_le_bytes-to_le_bytes_4 _ fb),
  sym (from_le_bytes-to_le_bytes_4 _ la) ∙ ap (λ k. from_le_bytes w32 (drop 5 k)) e ∙ from_le_bytes-to_le_bytes_4 _ lb,
)
  where
    head_of : {x y : ℕ} {xs ys : List ℕ} → x ∷ xs ≡ y ∷ ys → x ≡ y
    head_of e = cc

    one_element : (s t : Shape) → tag_of s ≡ tag_of t → number_in s ≡ number_in t → s ≡ t
    one_element (shape.Bits w) (shape.Bits v) h k = ap shape.Bits k
    one_element (shape.Enum w) (shape.Enum v) h k = ap shape.Enum k
    one_element (shape.Struct w) (shape.Struct v) h k = ap shape.Struct k
    one_element (shape.Array w) (shape.Array v) h k = ap shape.Array k
    one_element s t h k = absurd (omega (arith, h))

-- the array type of this number
pub numbered : (s : Shapes) → AreShapes s → (n : ℕ) (a : ArrayShape) → n < length s.arrays → key_of (get_or s.arrays n a) ≡ key_of a → number_in a.element < 2 ^ 32 → a.length < 2 ^ 32 →
    get_or (array_types [] s.arrays) n (bits 0) ≡ array a.length (type_of_shape (array_types [] s.arrays) a.element)
numbered s h n a lt e f l =
    let old = h.each n a lt in
    let same = one_key (get_or s.arrays n a) a old.number_fits old.length_fits f l e in
    old.is ∙ ap₂ (λ m t. array m (type_of_shape (array_types [] s.arrays) t)) same.1 same.0

pub length_types : (arrays : List ArrayShape) → length (array_types [] arrays) ≡ length arrays
length_types arrays = omega (arith, length-array_types [] arrays)

pub There-denotes : (s : Shapes) → AreShapes s → (n : ℕ) (a : ArrayShape) → number_of s.keys (key_of a) ≡ Some n → number_in a.element < 2 ^ 32 → a.length < 2 ^ 32 →
    Denotes (array_types [] s.arrays) (shape.Array n) (Some (array a.length (type_of_shape (array_types [] s.arrays) a.element)))
There-denotes s h n a found f l =
    let at = position-Some (bytes_eq (key_of a)) s.keys n (key_of a) found in
    let within : n < length s.arrays = omega (arith, at.0, ap length h.keys, length-map s.arrays key_of) in
    let same : key_of (get_or s.arrays n a) ≡ key_of a = sym (get_or-map key_of s.arrays n a (key_of a) within) ∙ ap (λ k. get_or k n (key_of a)) (sym h.keys) ∙ sym (same-is (key_of a) (get_or s.keys n (key_of a)) at.1) in
    (ap Some (sym (numbered s h n a within same f l)), omega (arith, within, length_types s.arrays))

-- one that wasn't met goes last
pub New-kept : (s : Shapes) → AreShapes s → (a : ArrayShape) → number_of s.keys (key_of a) ≡ None → IsShape (length (array_types [] s.arrays)) a.element → number_in a.element < 2 ^ 32 → a.length < 2 ^ 32 →
    AreShapes (record { keys = s.keys ++ key_of a ∷ []; arrays = s.arrays ++ a ∷ [] })
New-kept s h a none known f l =
    let types = array_types [] s.arrays in
    let t = array a.length (type_of_shape types a.element) in
    let grown = array_types-push [] s.arrays a in
    record {
      keys = ap (λ k. k ++ key_of a ∷ []) h.keys ∙ sym (map-append key_of s.arrays (a ∷ []));
      arrays = subst AreArrays (sym grown) (AreArrays-push types t h.arrays (record { length = a.length; item = type_of_shape types a.element; is = refl }) (apart s h a none known));
      each = λ i d lt. subst (λ ts. IsNumbered ts i (get_or (s.arrays ++ a ∷ []) i d)) (sym grown) (each_push s h a known f l i d lt);
    }
  where
    key_by : (a b : ArrayShape) → a.element ≡ b.element → a.length ≡ b.length → key_of a ≡ key_of b
    key_by a b e l = ap₂ (λ s n. tag_of s ∷ to_le_bytes w32 (number_in s) ++ to_le_bytes w32 n) e l

    apart : (s : Shapes) → AreShapes s → (a : ArrayShape) → number_of s.keys (key_of a) ≡ None → IsShape (length (array_types [] s.arrays)) a.element → (i : ℕ) → i < length (array_types [] s.arrays) →
        get_or (array_types [] s.arrays) i (bits 0) ≢ array a.length (type_of_shape (array_types [] s.arrays) a.element)
    apart s h a none known i lt e =
        let within : i < length s.arrays = omega (arith, lt, length_types s.arrays) in
        let old = h.each i a within in
        let same = same_items (get_or s.arrays i a).length a.length (type_of_shape (array_types [] s.arrays) (get_or s.arrays i a).element) (type_of_shape (array_types [] s.arrays) a.element) (sym old.is ∙ e) in
        let element = one_shape (array_types [] s.arrays) (get_or s.arrays i a).element a.element h.arrays old.known known same.1 in
        not_there s.keys (key_of a) (key_of a) i none (omega (arith, within, ap length h.keys, length-map s.arrays key_of))
        (ap (λ k. get_or k i (key_of a)) h.keys ∙ get_or-map key_of s.arrays i a (key_of a) within ∙ key_by (get_or s.arrays i a) a element same.0)

    keeps : (types : List ValueType) (t : ValueType) (i : ℕ) (b : ArrayShape) → i < length types → IsNumbered types i b → IsNumbered (types ++ t ∷ []) i b
    keeps types t i b lt n = record {
      known = IsShape-push (length types) (length (types ++ t ∷ [])) b.element (omega (arith, length-append types (t ∷ []))) n.known;
      is = get-push types t (bits 0) i lt ∙ n.is ∙ ap (array b.length) (sym (type-push types t b.element n.known));
      number_fits = n.number_fits;
      length_fits = n.length_fits;
    }

    each_push : (s : Shapes) → AreShapes s → (a : ArrayShape) → IsShape (length (array_types [] s.arrays)) a.element → number_in a.element < 2 ^ 32 → a.length < 2 ^ 32 → (i : ℕ) (d : ArrayShape) → i < length (s.arrays ++ a ∷ []) →
        IsNumbered (array_types [] s.arrays ++ array a.length (type_of_shape (array_types [] s.arrays) a.element) ∷ []) i (get_or (s.arrays ++ a ∷ []) i d)
    each_push s h a known f l i d lt =
        let types = array_types [] s.arrays in
        let t = array a.length (type_of_shape types a.element) in
        elim (le_split i (length s.arrays) (omega (arith, lt, length-append s.arrays (a ∷ [])))) [
          | inl below ↦ subst (IsNumbered (types ++ t ∷ []) i) (sym (get-push s.arrays a d i below)) (keeps types t i (get_or s.arrays i d) (omega (arith, below, length_types s.arrays)) (h.each i d below))
          | inr last ↦ subst (IsNumbered (types ++ t ∷ []) i) (sym (get-last s.arrays a d i last)) (record {
            known = IsShape-push (length types) (length (types ++ t ∷ [])) a.element (omega (arith, length-append types (t ∷ []))) known;
            is = get-last types t (bits 0) i (omega (arith, last, length_types s.arrays)) ∙ ap (array a.length) (sym (type-push types t a.element known));
            number_fits = f;
            length_fits = l;
          })
        ]

pub New-denotes : (arrays : List ArrayShape) (a : ArrayShape) (n : ℕ) → n ≡ length arrays →
    Denotes (array_types [] (arrays ++ a ∷ [])) (shape.Array n) (Some (array a.length (type_of_shape (array_types [] arrays) a.element)))
New-denotes arrays a n e =
    let types = array_types [] arrays in
    let t = array a.length (type_of_shape types a.element) in
    (ap Some (sym (ap (λ ts. get_or ts n (bits 0)) (array_types-push [] arrays a) ∙ get-last types t (bits 0) n (omega (arith, e, length_types arrays)))), omega (arith, e, length_types (arrays ++ a ∷ []), length-append arrays (a ∷ [])))
