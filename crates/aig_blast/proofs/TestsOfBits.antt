-- What the tests of words compute.
use Rattle.std.proofs.Common.{◌≡◌, ℕ, zero, suc, ◌+◌, ◌-◌, ◌*◌, ◌%◌, ◌^◌, ◌<◌, Bool, true, false, not, ◌&&◌, ◌||◌, ltb, eqb, List, length, take, refl, sym, ap, ap₂, ◌∙◌, arith, count_ones}
use lib.Count.{ones}
use Rattle.std.proofs.Math.Nat.{pow-suc}
use Rattle.std.proofs.lemmas.Bool.Decides.{nat_tests}
use Rattle.std.proofs.lemmas.List.{take_all}
use Rattle.std.proofs.lemmas.Nat.{pow_pos, ones_cat}
use Rattle.aig_blast.specs.BitLists.{bit, number, xor}
use Rattle.aig_blast.specs.Steps.{bit_of, joined_after}
use Rattle.aig_blast.specs.inner.Steps.{some_one, equal_after, equal}
use Rattle.aig_blast.proofs.Numbers.{number-take-suc, number-take-lt}

all_step : (a b : Bool) (t p : ℕ) → t < p → a ≡ eqb (t + 1) p → (a && b) ≡ eqb (t + p * bit b + 1) (p * 2)
all_step a true t p h e = grind (arith, nat_tests)
all_step a false t p h e = grind (arith, nat_tests)

some_step : (a b : Bool) (t p : ℕ) → 0 < p → a ≡ ltb 0 t → (a || b) ≡ ltb 0 (t + p * bit b)
some_step a true t p h e = grind (arith, nat_tests)
some_step a false t p h e = grind (arith, nat_tests)

pub all_after : (xs : List Bool) (k : ℕ) → joined_after (λ x y. x && y) true xs k ≡ eqb (number (take k xs) + 1) (2 ^ k)
all_after xs zero = refl
all_after xs (suc k) =
    rw (number-take-suc k xs, pow-suc 2 k) (all_step (joined_after (λ x y. x && y) true xs k) (bit_of xs k) (number (take k xs)) (2 ^ k) (number-take-lt k xs) (all_after xs k))

pub some_after : (xs : List Bool) (k : ℕ) → joined_after (λ x y. x || y) false xs k ≡ ltb 0 (number (take k xs))
some_after xs zero = refl
some_after xs (suc k) =
    rw (number-take-suc k xs) (some_step (joined_after (λ x y. x || y) false xs k) (bit_of xs k) (number (take k xs)) (2 ^ k) (pow_pos k) (some_after xs k))

ones_of_bit : (b : Bool) → count_ones (bit b) ≡ bit b
unfolding ones
ones_of_bit true = refl
ones_of_bit false = refl

odd_step : (a b : Bool) (t k : ℕ) → t < 2 ^ k → bit a ≡ count_ones t % 2 → bit (xor a b) ≡ count_ones (t + 2 ^ k * bit b) % 2
odd_step a b t k h e =
    let joined : count_ones (bit b * 2 ^ k + t) ≡ count_ones (bit b) + count_ones t = ones_cat k (bit b) t h in
    let turned : t + 2 ^ k * bit b ≡ bit b * 2 ^ k + t = omega arith in
    parity a b (count_ones t) e ∙ ap (λ n. n % 2) (sym (ap count_ones turned ∙ joined))
  where
    parity : (a b : Bool) (n : ℕ) → bit a ≡ n % 2 → bit (xor a b) ≡ (count_ones (bit b) + n) % 2
    parity true true n e = omega (arith, ones_of_bit true)
    parity true false n e = omega (arith, ones_of_bit false)
    parity false true n e = omega (arith, ones_of_bit true)
    parity false false n e = omega (arith, ones_of_bit false)

pub odd_after : (xs : List Bool) (k : ℕ) → bit (joined_after xor false xs k) ≡ count_ones (number (take k xs)) % 2
odd_after xs zero = ap (λ n. n % 2) (sym (ones_of_bit false))
odd_after xs (suc k) =
    rw (number-take-suc k xs) (odd_step (joined_after xor false xs k) (bit_of xs k) (number (take k xs)) k (number-take-lt k xs) (odd_after xs k))

equal_step : (e a b : Bool) (t u p : ℕ) → t < p → u < p → e ≡ eqb t u → (e && not (xor a b)) ≡ eqb (t + p * bit a) (u + p * bit b)
equal_step e true true t u p h k s = grind (arith, nat_tests)
equal_step e true false t u p h k s = grind (arith, nat_tests)
equal_step e false true t u p h k s = grind (arith, nat_tests)
equal_step e false false t u p h k s = grind (arith, nat_tests)

pub equal-after : (xs ys : List Bool) (k : ℕ) → equal_after xs ys k ≡ eqb (number (take k xs)) (number (take k ys))
equal-after xs ys zero = refl
equal-after xs ys (suc k) =
    rw (number-take-suc k xs, number-take-suc k ys)
    (equal_step (equal_after xs ys k) (bit_of xs k) (bit_of ys k) (number (take k xs)) (number (take k ys)) (2 ^ k) (number-take-lt k xs) (number-take-lt k ys) (equal-after xs ys k))

-- ---- whole words

whole : (xs : List Bool) → take (length xs) xs ≡ xs
whole xs = take_all (length xs) xs (omega arith)

-- whether all bits are 1, and whether an odd number of them are
abbrev pub all_ones : List Bool → Bool
all_ones xs = joined_after (λ x y. x && y) true xs (length xs)

abbrev pub odd_ones : List Bool → Bool
odd_ones xs = joined_after xor false xs (length xs)

pub all_ones-eqb : (xs : List Bool) → all_ones xs ≡ eqb (number xs) (2 ^ length xs - 1)
all_ones-eqb xs =
    all_after xs (length xs) ∙ ap (λ zs. eqb (number zs + 1) (2 ^ length xs)) (whole xs) ∙ shifted (number xs) (2 ^ length xs) (pow_pos (length xs))
  where
    shifted : (n p : ℕ) → 0 < p → eqb (n + 1) p ≡ eqb n (p - 1)
    shifted n p h = grind (arith, nat_tests)

pub some_one-ltb : (xs : List Bool) → some_one xs ≡ ltb 0 (number xs)
some_one-ltb xs = some_after xs (length xs) ∙ ap (λ zs. ltb 0 (number zs)) (whole xs)

pub odd_ones-count : (xs : List Bool) → bit (odd_ones xs) ≡ count_ones (number xs) % 2
odd_ones-count xs = odd_after xs (length xs) ∙ ap (λ zs. count_ones (number zs) % 2) (whole xs)

pub equal-eqb : (xs ys : List Bool) → length xs ≡ length ys → equal xs ys ≡ eqb (number xs) (number ys)
equal-eqb xs ys same =
    equal-after xs ys (length xs) ∙ ap₂ (λ a b. eqb (number a) (number b)) (whole xs) (take_all (length xs) ys (omega arith))
