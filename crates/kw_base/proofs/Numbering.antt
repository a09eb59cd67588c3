-- The number of a name in a list of names that are seen through their bytes.
use Rattle.std.proofs.Common.{◌≡◌, ◌≢◌, ℕ, suc, ◌+◌, Bool, true, false, cond, not, ◌||◌, ltb, List, [], ◌∷◌, ◌++◌, map, length, refl, ap, sym, ◌∙◌, None, Some, position, arith}
use Rattle.std.specs.List.{AllByRecursion, IsDistinct, list_any, prefix_len, position_or_len}
use Rattle.std.proofs.lemmas.Bool.Decides.{nat_tests}
use Rattle.std.specs.Prelude.{AllPairs}
use Rattle.std.specs.Str.{bytes_eq}
use Rattle.std.proofs.lemmas.List.{map-append}
use Rattle.std.proofs.lemmas.Map.Made.{AllPairs-from_IsDistinct}
use Rattle.std.proofs.lemmas.Slice.Eq.{bytes_eq-Decides}
use Rattle.indexmap.specs.IndexSet.{insert_key}

prefix_len-map : {X Y : Type 0} (view : X → Y) (test : Y → Bool) (xs : List X) → prefix_len test (map view xs) ≡ prefix_len (λ x. test (view x)) xs
prefix_len-map view test [] = refl
prefix_len-map view test (x ∷ xs) = ap (λ n. cond (test (view x)) (1 + n) 0) (prefix_len-map view test xs)

pub length-map : {X Y : Type 0} (view : X → Y) (xs : List X) → length (map view xs) ≡ length xs
length-map view [] = refl
length-map view (x ∷ xs) = ap suc (length-map view xs)

-- the first name that passes has the same index in the list of the names' bytes
pub position-map : {X Y : Type 0} (view : X → Y) (test : Y → Bool) (xs : List X) → position test (map view xs) ≡ position (λ x. test (view x)) xs
position-map view test xs =
    let place = prefix_len-map view (λ y. not (test y)) xs in
    let bound = length-map view xs in
    (λ i. cond (ltb (place i) (bound i)) (Some (place i)) None)

ltb-suc : (a b : ℕ) → ltb (1 + a) (suc b) ≡ ltb a b
ltb-suc a b = grind (arith, nat_tests)

ltb-zero : (b : ℕ) → ltb 0 (suc b) ≡ true
ltb-zero b = grind (arith, nat_tests)

-- some name passes exactly where the first that passes isn't the end
list_any-position_or_len : {X : Type 0} (test : X → Bool) (xs : List X) → list_any test xs ≡ ltb (position_or_len test xs) (length xs)
list_any-position_or_len test [] = refl
list_any-position_or_len test (x ∷ xs) =
    elim (test x) as (λ b. (b || list_any test xs) ≡ ltb (cond (not b) (1 + position_or_len test xs) 0) (suc (length xs))) [
      | true ↦ sym (ltb-zero (length xs))
      | false ↦ list_any-position_or_len test xs ∙ sym (ltb-suc (position_or_len test xs) (length xs))
    ]

not_chosen : (b : Bool) (n : ℕ) → cond b (Some n) None ≡ None → b ≡ false
not_chosen true n h = cc
not_chosen false n h = refl

-- a name that wasn't there goes last
pub insert_key-absent : {X : Type 0} (same : X → X → Bool) (xs : List X) (x : X) → position (same x) xs ≡ None → insert_key same xs x ≡ xs ++ x ∷ []
insert_key-absent same xs x none =
    ap (λ b. cond b xs (xs ++ x ∷ [])) (list_any-position_or_len (same x) xs ∙ not_chosen (ltb (position_or_len (same x) xs) (length xs)) (position_or_len (same x) xs) none)

-- the same of the names' bytes
pub map-insert_key-absent : {X Y : Type 0} (view : X → Y) (same : Y → Y → Bool) (xs : List X) (x : X) → position (same (view x)) (map view xs) ≡ None → map view (insert_key (λ a b. same (view a) (view b)) xs x) ≡ map view xs ++ view x ∷ []
map-insert_key-absent view same xs x none =
    ap (map view) (insert_key-absent (λ a b. same (view a) (view b)) xs x (sym (position-map view (same (view x)) xs) ∙ none)) ∙ map-append view xs (x ∷ [])

apart-map : {X Y : Type 0} (view : X → Y) (test : Y → Bool) (xs : List X) → AllByRecursion (λ x. test (view x) ≡ false) xs → AllByRecursion (λ y. test y ≡ false) (map view xs)
apart-map view test [] apart = tt
apart-map view test (x ∷ xs) apart = (apart.0, apart-map view test xs apart.1)

-- what is distinct through its bytes has distinct bytes
IsDistinct-map : {X Y : Type 0} (view : X → Y) (same : Y → Y → Bool) (xs : List X) → IsDistinct (λ a b. same (view a) (view b)) xs → IsDistinct same (map view xs)
unfolding IsDistinct
IsDistinct-map view same [] distinct = tt
IsDistinct-map view same (x ∷ xs) distinct = (apart-map view (same (view x)) xs distinct.0, IsDistinct-map view same xs distinct.1)

-- no two of the names' bytes are equal
pub AllPairs-map : {X : Type 0} (view : X → List ℕ) (xs : List X) → IsDistinct (λ a b. bytes_eq (view a) (view b)) xs → AllPairs (λ a b. a ≢ b) (map view xs)
AllPairs-map view xs distinct = AllPairs-from_IsDistinct bytes_eq-Decides (map view xs) (IsDistinct-map view bytes_eq xs distinct)
