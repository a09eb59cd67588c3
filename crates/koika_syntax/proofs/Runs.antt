-- How far a run of bytes goes that all pass a test.
use Rattle.std.proofs.Common.{◌≡◌, ℕ, suc, ◌+◌, ◌<◌, ◌≤◌, Bool, true, false, cond, ◌&&◌, List, [], ◌∷◌, ◌++◌, length, get_or, refl, ap, sym, ◌∙◌, subst, arith, true≢false}
use Rattle.std.specs.Char.{is_digit, digit_value}
use Rattle.std.specs.List.{list_all, prefix_len, take_while}
use Rattle.std.specs.Str.Parse.{AllDigits}
use Rattle.std.proofs.lemmas.Bool.{lt-ltb, ltb-true}
use Rattle.std.proofs.lemmas.List.Sums.{take_while-cons}
use Rattle.kw_base.proofs.Conjunction.{and-true, and-left, and-right}

list_all-chosen : (p : ℕ → Bool) (x : ℕ) (xs : List ℕ) (b : Bool) → p x ≡ b → list_all p xs ≡ true → list_all p (cond b (x ∷ xs) []) ≡ true
list_all-chosen p x xs true e h = and-true (p x) (list_all p xs) e h
list_all-chosen p x xs false e h = refl

-- the run itself passes
pub list_all-take_while : (p : ℕ → Bool) (xs : List ℕ) → list_all p (take_while p xs) ≡ true
list_all-take_while p [] = refl
list_all-take_while p (x ∷ xs) =
    ap (list_all p) (take_while-cons p x xs) ∙ list_all-chosen p x (take_while p xs) (p x) refl (list_all-take_while p xs)

-- what passes is within the run
pub length-le-prefix_len : (p : ℕ → Bool) (xs ys : List ℕ) → list_all p xs ≡ true → length xs ≤ prefix_len p (xs ++ ys)
length-le-prefix_len p [] ys h = omega arith
length-le-prefix_len p (x ∷ xs) ys h =
    let rest = length-le-prefix_len p xs ys (and-right (p x) (list_all p xs) h) in
    subst (λ b. suc (length xs) ≤ cond b (1 + prefix_len p (xs ++ ys)) 0) (sym (and-left (p x) (list_all p xs) h)) (omega (arith, rest))

-- a byte that doesn't pass ends the run
pub prefix_len-append-cons : (p : ℕ → Bool) (xs : List ℕ) (y : ℕ) (ys : List ℕ) → list_all p xs ≡ true → p y ≡ false → prefix_len p (xs ++ y ∷ ys) ≡ length xs
prefix_len-append-cons p [] y ys h stop = ap (λ b. cond b (1 + prefix_len p ys) 0) stop
prefix_len-append-cons p (x ∷ xs) y ys h stop =
    ap (λ b. cond b (1 + prefix_len p (xs ++ y ∷ ys)) 0) (and-left (p x) (list_all p xs) h) ∙ ap (λ n. 1 + n) (prefix_len-append-cons p xs y ys (and-right (p x) (list_all p xs) h) stop) ∙ omega arith

-- a first byte that passes is a run
pub prefix_len-some : (p : ℕ → Bool) (xs : List ℕ) → 0 < length xs → p (get_or xs 0 0) ≡ true → 0 < prefix_len p xs
prefix_len-some p [] some first = absurd (omega (arith, some))
prefix_len-some p (x ∷ xs) some first = subst (λ b. 0 < cond b (1 + prefix_len p xs) 0) (sym first) (omega arith)

-- digits pass the test of a digit
pub list_all-from_digits : (radix : ℕ) (xs : List ℕ) → AllDigits radix xs → list_all (λ b. is_digit b radix) xs ≡ true
list_all-from_digits radix [] h = refl
list_all-from_digits radix (x ∷ xs) h =
    and-true (is_digit x radix) (list_all (λ b. is_digit b radix) xs) (lt-ltb (digit_value x) radix h.0) (list_all-from_digits radix xs h.1)

pub digits-from_list_all : (radix : ℕ) (xs : List ℕ) → list_all (λ b. is_digit b radix) xs ≡ true → AllDigits radix xs
digits-from_list_all radix [] h = tt
digits-from_list_all radix (x ∷ xs) h =
    let first = and-left (is_digit x radix) (list_all (λ b. is_digit b radix) xs) h in
    (ltb-true (digit_value x) radix first, digits-from_list_all radix xs (and-right (is_digit x radix) (list_all (λ b. is_digit b radix) xs) h))
