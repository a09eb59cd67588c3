-- The numbers of lists of bits.
use Rattle.std.proofs.Common.{◌≡◌, ℕ, zero, suc, ◌+◌, ◌*◌, ◌/◌, ◌%◌, ◌^◌, ◌<◌, Bool, true, false, not, ◌&&◌, List, [], ◌∷◌, ◌++◌, length, get_or, map, take, drop, replicate, refl, sym, ap, ◌∙◌, arith}
use Rattle.std.proofs.Math.Nat.{pow-suc, add-mul-mod_self_left, mod-eq_of_lt}
use Rattle.std.proofs.lemmas.Nat.{pow_pos, shr_high}
use Rattle.aig_blast.specs.BitLists.{bit, number}

pub bit-lt : (b : Bool) → bit b < 2
bit-lt true = omega arith
bit-lt false = omega arith

pub number-lt : (xs : List Bool) → number xs < 2 ^ length xs
number-lt [] = omega arith
number-lt (x ∷ xs) = omega (arith, bit-lt x, number-lt xs, pow-suc 2 (length xs))

append_step : (b p X Y : ℕ) → b + 2 * (X + p * Y) ≡ b + 2 * X + p * 2 * Y
append_step b p X Y = omega arith

pub number-append : (xs ys : List Bool) → number (xs ++ ys) ≡ number xs + 2 ^ length xs * number ys
number-append [] ys = omega arith
number-append (x ∷ xs) ys =
    rw (number-append xs ys, pow-suc 2 (length xs)) (append_step (bit x) (2 ^ length xs) (number xs) (number ys))

pub number-push : (xs : List Bool) (b : Bool) → number (xs ++ b ∷ []) ≡ number xs + 2 ^ length xs * bit b
number-push xs b = number-append xs (b ∷ []) ∙ ap (λ n. number xs + 2 ^ length xs * n) (omega arith)

-- one more bit from below
pub number-take-suc : (k : ℕ) (xs : List Bool) → number (take (suc k) xs) ≡ number (take k xs) + 2 ^ k * bit (get_or xs k false)
number-take-suc zero [] = refl
number-take-suc (suc k) [] = omega arith
number-take-suc zero (x ∷ xs) = omega arith
number-take-suc (suc k) (x ∷ xs) =
    rw (pow-suc 2 k) (ap (λ n. bit x + 2 * n) (number-take-suc k xs) ∙ append_step (bit x) (2 ^ k) (number (take k xs)) (bit (get_or xs k false)))

pub number-zeros : (n : ℕ) → number (replicate n false) ≡ 0
number-zeros zero = refl
number-zeros (suc n) = omega (arith, number-zeros n)

pub number-not : (xs : List Bool) → number (map not xs) + number xs + 1 ≡ 2 ^ length xs
number-not [] = refl
number-not (true ∷ xs) = omega (arith, number-not xs, pow-suc 2 (length xs))
number-not (false ∷ xs) = omega (arith, number-not xs, pow-suc 2 (length xs))

pub number-take-lt : (k : ℕ) (xs : List Bool) → number (take k xs) < 2 ^ k
number-take-lt zero xs = omega arith
number-take-lt (suc k) [] = omega (arith, pow_pos (suc k))
number-take-lt (suc k) (x ∷ xs) = omega (arith, bit-lt x, number-take-lt k xs, pow-suc 2 k)

-- the low bits and the others
pub number-split : (k : ℕ) (xs : List Bool) → number (take k xs) + 2 ^ k * number (drop k xs) ≡ number xs
number-split zero xs = omega arith
number-split (suc k) [] = omega arith
number-split (suc k) (x ∷ xs) =
    rw (pow-suc 2 k) (sym (append_step (bit x) (2 ^ k) (number (take k xs)) (number (drop k xs))) ∙ ap (λ n. bit x + 2 * n) (number-split k xs))

-- a remainder and a quotient from their sum
pub mod_from : (s p c n : ℕ) → s < p → s + p * c ≡ n → s ≡ n % p
mod_from s p c n h e = sym (ap (λ x. x % p) (sym e) ∙ add-mul-mod_self_left s p c ∙ mod-eq_of_lt h)

pub number-take : (k : ℕ) (xs : List Bool) → number (take k xs) ≡ number xs % 2 ^ k
number-take k xs = mod_from (number (take k xs)) (2 ^ k) (number (drop k xs)) (number xs) (number-take-lt k xs) (number-split k xs)

pub number-drop : (k : ℕ) (xs : List Bool) → number (drop k xs) ≡ number xs / 2 ^ k
number-drop k xs =
    let turned : number (drop k xs) * 2 ^ k + number (take k xs) ≡ number xs = omega (arith, number-split k xs) in
    sym (shr_high (number (drop k xs)) k (number (take k xs)) (number-take-lt k xs)) ∙ ap (λ n. n / 2 ^ k) turned

pub bit-and : (x c : Bool) → bit (x && c) ≡ bit c * bit x
bit-and false false = refl
bit-and false true = refl
bit-and true false = refl
bit-and true true = refl
