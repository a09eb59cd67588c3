-- Lists: tests of all elements, of some, and flags.
use Rattle.std.proofs.Common.{◌≡◌, ℕ, zero, suc, ◌<◌, Bool, true, false, not, ◌&&◌, ◌||◌, List, [], ◌∷◌, ◌++◌, map, length, set, get_or, refl, sym, ap, ap₂, arith, true≢false}
use Rattle.std.specs.List.{All, flat_map, list_all, list_any}
use Rattle.std.proofs.lemmas.List.Elements.{All-append, All-cons, All-head, All-nil, All-tail}

pub and-true : (b : Bool) → (b && true) ≡ b
and-true true = refl
and-true false = refl

pub not-not : (b : Bool) → not (not b) ≡ b
not-not true = refl
not-not false = refl

-- the same test in other words
pub all_same : {X : Type 0} (p q : X → Bool) (xs : List X) → All (λ x. p x ≡ q x) xs → list_all p xs ≡ list_all q xs
all_same p q [] same = refl
all_same {X} p q (x ∷ xs) same =
    ap₂ (λ a b. a && b) (All-head (λ (y : X). p y
    ≡ q y) x xs same) (all_same p q xs (All-tail (λ (y : X). p y ≡ q y) x xs same))

pub any_same : {X : Type 0} (p q : X → Bool) (xs : List X) → All (λ x. p x ≡ q x) xs → list_any p xs ≡ list_any q xs
any_same p q [] same = refl
any_same {X} p q (x ∷ xs) same =
    ap₂ (λ a b. a || b) (All-head (λ (y : X). p y
    ≡ q y) x xs same) (any_same p q xs (All-tail (λ (y : X). p y ≡ q y) x xs same))

pub list_any-map : {X Y : Type 0} (p : Y → Bool) (f : X → Y) (xs : List X) → list_any p (map f xs)
    ≡ list_any (λ x. p (f x)) xs
list_any-map p f [] = refl
list_any-map p f (x ∷ xs) = ap (λ b. p (f x) || b) (list_any-map p f xs)

-- what holds of all elements of two lists in a row holds of those of each
pub all_left : {X : Type 0} (P : X → Type 0) (xs ys : List X) → All P (xs ++ ys) → All P xs
all_left P [] ys all = All-nil P
all_left P (x ∷ xs) ys all = All-cons P x xs (All-head P x (xs ++ ys) all)
    (all_left P xs ys (All-tail P x (xs ++ ys) all))

pub all_right : {X : Type 0} (P : X → Type 0) (xs ys : List X) → All P (xs ++ ys) → All P ys
all_right P [] ys all = all
all_right P (x ∷ xs) ys all = all_right P xs ys (All-tail P x (xs ++ ys) all)

-- and of all elements of lists
pub all_flat : {X : Type 0} (P : X → Type 0) (lists : List (List X)) → All P (flat_map (λ (xs : List X). xs) lists)
    → All (All P) lists
all_flat P [] all = All-nil (All P)
all_flat {X} P (xs ∷ lists) all =
    let rest : List X = flat_map (λ (ys : List X). ys) lists in
    All-cons (All P) xs lists (all_left P xs rest all) (all_flat P lists (all_right P xs rest all))

pub flat_all : {X : Type 0} (P : X → Type 0) (lists : List (List X)) → All (All P) lists
    → All P (flat_map (λ (xs : List X). xs) lists)
flat_all P [] all = All-nil P
flat_all {X} P (xs ∷ lists) all =
    All-append P xs (flat_map (λ (ys : List X). ys) lists) (All-head (All P) xs lists all)
    (flat_all P lists (All-tail (All P) xs lists all))

pub all_map : {X Y : Type 0} (P : Y → Type 0) (f : X → Y) (xs : List X) → All P (map f xs) → All (λ x. P (f x)) xs
all_map P f [] all = All-nil (λ x. P (f x))
all_map P f (x ∷ xs) all = All-cons (λ y. P (f y)) x xs (All-head P (f x) (map f xs) all)
    (all_map P f xs (All-tail P (f x) (map f xs) all))

-- ---- flags

-- a flag stays
pub set_true : (xs : List Bool) (i v : ℕ) → get_or xs v false ≡ true → get_or (set xs i true) v false ≡ true
set_true [] i v is = is
set_true (x ∷ xs) zero zero is = refl
set_true (x ∷ xs) zero (suc v) is = is
set_true (x ∷ xs) (suc i) zero is = is
set_true (x ∷ xs) (suc i) (suc v) is = set_true xs i v is

-- a flag is one of those that there are
pub within_flags : (xs : List Bool) (v : ℕ) → get_or xs v false ≡ true → v < length xs
within_flags [] v is = absurd (true≢false (sym is))
within_flags (x ∷ xs) zero is = omega arith
within_flags (x ∷ xs) (suc v) is = omega (arith, within_flags xs v is)
