-- Bits of a byte of flags: those of what is shifted down or cut off, of one flag, and of two bytes together.
use Rattle.std.proofs.Common.{◌≡◌, ◌⊎◌, ℕ, zero, suc, ◌+◌, ◌-◌, ◌*◌, ◌/◌, ◌%◌, ◌^◌, ◌<◌, ◌≤◌, true, false, bit_or, lit<, arith, refl, sym, ap, ◌∙◌, inl, inr, eqb-true, eq-eqb, max}
use Rattle.std.specs.Prelude.{◌==◌, ◌||◌, not}
use Rattle.std.specs.Int.{bit_at}
use Rattle.std.proofs.Math.Nat.{pow-le-pow_right}
use Rattle.std.proofs.lemmas.Bool.{cases_eq, cases_lt, eqb-false, ne_eqb, not-false, true_from_ne_false, both_ways}
use Rattle.std.proofs.lemmas.Nat.{shl_whole, pow-add, shr-shr, shr_split, div-mul-add}
use Rattle.std.proofs.lemmas.Nat.Bits.{bit_at-lt, bit_at-zero, bit_at-pow_same, bit_at-pow_other, bit_at_or, bit_at_above, bit_at_cat_low, same_from_bits}

-- ---- one bit

pub bit_of_shift : (n j i : ℕ) → bit_at (n / 2 ^ j) i ≡ bit_at n (j + i)
bit_of_shift n j i = ap (λ (x : ℕ). x % 2) (shr-shr n j i)

pub bit_of_low : (n k i : ℕ) → i < k → bit_at (n % 2 ^ k) i ≡ bit_at n i
bit_of_low n k i h =
    sym (bit_at_cat_low (n / 2 ^ k) k (n % 2 ^ k) i h) ∙ ap (λ (x : ℕ). bit_at x i) (shr_split n k)

clear_digit : (b : ℕ) → b < 2 → (b == 1) ≡ false → b ≡ 0
clear_digit b small h = let other : b ≡ 1 → ⊥ = eqb-false b 1 h in omega arith

-- a flag that isn't set is a 0
pub bit_of_clear : (n i : ℕ) → (bit_at n i == 1) ≡ false → bit_at n i ≡ 0
bit_of_clear n i h = clear_digit (bit_at n i) (bit_at-lt n i) h

pub clear_of_bit : (n i : ℕ) → bit_at n i ≡ 0 → (bit_at n i == 1) ≡ false
clear_of_bit n i e = ap (λ (x : ℕ). x == 1) e

-- one flag alone
pub flag_alone : (k i : ℕ) → (bit_at (2 ^ k) i == 1) ≡ (i == k)
flag_alone k i = chosen (cases_eq i k)
  where
    chosen : (i ≡ k) ⊎ (i ≡ k → ⊥) → (bit_at (2 ^ k) i == 1) ≡ (i == k)
    chosen (inl e) =
        let bit : bit_at (2 ^ k) i ≡ 1 = ap (λ (x : ℕ). bit_at (2 ^ k) x) e ∙ bit_at-pow_same k in
        ap (λ (x : ℕ). x == 1) bit ∙ sym (eq-eqb i k e)
    chosen (inr ne) = ap (λ (x : ℕ). x == 1) (bit_at-pow_other k i ne) ∙ sym (ne_eqb i k ne)

one_of_two : (x y : ℕ) → x < 2 → y < 2 → (max x y == 1) ≡ (x == 1 || y == 1)
one_of_two zero zero h k = refl
one_of_two zero (suc zero) h k = refl
one_of_two (suc zero) zero h k = refl
one_of_two (suc zero) (suc zero) h k = refl
one_of_two (suc (suc x)) y h k = absurd (omega arith)
one_of_two zero (suc (suc y)) h k = absurd (omega arith)
one_of_two (suc zero) (suc (suc y)) h k = absurd (omega arith)

-- the flags of both
pub flag_of_both : (a b i : ℕ) → (bit_at (bit_or a b) i == 1) ≡ (bit_at a i == 1 || bit_at b i == 1)
flag_of_both a b i =
    ap (λ (x : ℕ). x == 1) (bit_at_or a b i) ∙ one_of_two (bit_at a i) (bit_at b i) (bit_at-lt a i) (bit_at-lt b i)

-- ---- no bit from a place on

pub none_from : (n s i : ℕ) → n / 2 ^ s ≡ 0 → s ≤ i → bit_at n i ≡ 0
none_from n s i h above =
    let e : s + (i - s) ≡ i = omega arith in
    ap (λ (x : ℕ). bit_at n x) (sym e) ∙ sym (bit_of_shift n s (i - s)) ∙ ap (λ (x : ℕ). bit_at x (i - s)) h ∙ bit_at-zero (i - s)

pub nothing_from : (n k s : ℕ) → n < 2 ^ k → ((i : ℕ) → s ≤ i → i < k → bit_at n i ≡ 0) → n / 2 ^ s ≡ 0
nothing_from n k s small h =
    same_from_bits (n / 2 ^ s) 0 (λ (i : ℕ). bit_of_shift n s i ∙ at (s + i) (omega arith) ∙ sym (bit_at-zero i))
  where
    at : (i : ℕ) → s ≤ i → bit_at n i ≡ 0
    at i above = chosen (cases_lt i k)
      where
        chosen : (i < k) ⊎ (k ≤ i) → bit_at n i ≡ 0
        chosen (inl lt) = h i above lt
        chosen (inr ge) = bit_at_above n k i small ge

pub zero_of_test : (x : ℕ) → not (x == 0) ≡ false → x ≡ 0
zero_of_test x h = eqb-true x 0 (not-false (x == 0) h)

pub test_of_zero : (x : ℕ) → x ≡ 0 → not (x == 0) ≡ false
test_of_zero x e = ap (λ (y : ℕ). not (y == 0)) e

-- ---- the highest bit

pub top_bit : (w r : ℕ) → 2 ^ r ≤ w → w < 2 * 2 ^ r → bit_at w r ≡ 1
top_bit w r low high =
    let sum : w ≡ 1 * 2 ^ r + (w - 2 ^ r) = omega arith in
    let one : w / 2 ^ r ≡ 1 = ap (λ (x : ℕ). x / 2 ^ r) sum ∙ div-mul-add 1 (2 ^ r) (w - 2 ^ r) (omega arith) in
    ap (λ (x : ℕ). x % 2) one

pub none_above_top : (w r i : ℕ) → w < 2 * 2 ^ r → r < i → bit_at w i ≡ 0
none_above_top w r i high above =
    let product : 2 ^ (r + 1) ≡ 2 ^ r * 2 = pow-add 2 r 1 in
    bit_at_above w (r + 1) i (omega arith) (omega arith)

pub top_below : (w r k : ℕ) → 2 ^ r ≤ w → w < 2 ^ k → r < k
top_below w r k low small = chosen (cases_lt r k)
  where
    chosen : (r < k) ⊎ (k ≤ r) → r < k
    chosen (inl lt) = lt
    chosen (inr ge) =
        let grows : 2 ^ k ≤ 2 ^ r = pow-le-pow_right (lit< tt) ge in
        omega arith

-- ---- one bit in a byte

pub one_shifted : (k : ℕ) → k < 8 → 1 * 2 ^ k % 2 ^ 8 ≡ 2 ^ k
one_shifted k below =
    let whole : 1 * 2 ^ k % 2 ^ 8 ≡ 1 * 2 ^ k = shl_whole 1 1 k 8 (lit< tt) (omega arith) in
    omega arith

-- the writes of a byte of flags below a port
pub write_below : (n port at : ℕ) → at < port → bit_at (n / 2 ^ 4 % 2 ^ port) at ≡ bit_at n (4 + at)
write_below n port at h = bit_of_low (n / 2 ^ 4) port at h ∙ bit_of_shift n 4 at

-- the flags of both are some where those of one are
nothing_of_both : (a b i : ℕ) → bit_or a b ≡ 0 → bit_at a i ≡ 0
nothing_of_both a b i e = smaller (bit_at a i) (bit_at b i) (sym (bit_at_or a b i) ∙ ap (λ (x : ℕ). bit_at x i) e ∙ bit_at-zero i)
  where
    smaller : (x y : ℕ) → max x y ≡ 0 → x ≡ 0
    smaller x y h = omega arith

pub some_of_both : (a b : ℕ) → not (a == 0) ≡ true → not (bit_or a b == 0) ≡ true
some_of_both a b h = true_from_ne_false (not (bit_or a b == 0)) (λ k.
    let none : a ≡ 0 = same_from_bits a 0 (λ (i : ℕ). nothing_of_both a b i (zero_of_test (bit_or a b) k) ∙ sym (bit_at-zero i)) in
    both_ways (not (a == 0)) (test_of_zero a none) h)
