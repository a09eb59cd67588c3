-- Numbers made of bits, and a word's bits in reverse order.
use Rattle.std.proofs.Common.{◌≡◌, ℕ, zero, suc, ◌+◌, ◌-◌, ◌*◌, ◌/◌, ◌%◌, ◌^◌, ◌<◌, ◌≤◌, inl, inr, sym, ap, subst, ◌∙◌, arith, add-zero}
use Rattle.std.proofs.Math.Nat.{pow-suc, mod-eq_of_lt}
use Rattle.std.proofs.lemmas.Bool.{cases_lt}
use Rattle.std.proofs.lemmas.Nat.{shr-shr, mul-add-lt}
use Rattle.std.proofs.lemmas.Nat.Bits.{bit_at-lt, bit_at_cat_low, bit_at_cat_high, bit_at-suc, bit_at-zero, bit_at_lowest, bit_at_above, same_from_bits}
use Rattle.std.specs.Int.{bit_at, reverse_bits_onto}
use Rattle.kw_bits.specs.BitVector.{IsBitVector}
use Rattle.kw_bits.specs.Host.{number_of_bits}

-- ---- a number made of bits

-- with one bit more, that bit stands above them
pub number_of_bits-next : (w : ℕ) (bit : ℕ → ℕ) → number_of_bits (w + 1) bit ≡ bit w * 2 ^ w + number_of_bits w bit
unfolding number_of_bits
number_of_bits-next w bit =
    let e : w + 1 ≡ suc w = omega arith in
    ap (λ k. number_of_bits k bit) e

-- it is below 2 to how many they are
pub number_of_bits-lt : (w : ℕ) (bit : ℕ → ℕ) → ((i : ℕ) → bit i < 2) → number_of_bits w bit < 2 ^ w
unfolding number_of_bits
number_of_bits-lt zero bit small = omega arith
number_of_bits-lt (suc w) bit small =
    subst (λ (n : ℕ). bit w * 2 ^ w + number_of_bits w bit < n) (sym (pow-suc 2 w))
    (mul-add-lt (bit w) (2 ^ w) (number_of_bits w bit) 2 (small w) (number_of_bits-lt w bit small))

-- and it has those bits
pub bit_at-number_of_bits : (w : ℕ) (bit : ℕ → ℕ) (i : ℕ) → ((k : ℕ) → bit k < 2) → i < w → bit_at (number_of_bits w bit) i ≡ bit i
unfolding number_of_bits
bit_at-number_of_bits zero bit i small h = omega arith
bit_at-number_of_bits (suc w) bit i small h =
    elim (cases_lt i w) [
      | inl low ↦ bit_at_cat_low (bit w) w (number_of_bits w bit) i low ∙ bit_at-number_of_bits w bit i small low
      | inr top ↦
          let same : w ≡ i = omega arith in
          let lowest : i - w ≡ 0 = omega arith in
          bit_at_cat_high (bit w) w (number_of_bits w bit) i (number_of_bits-lt w bit small) top ∙ ap (bit_at (bit w)) lowest
          ∙ bit_at_lowest (bit w) ∙ mod-eq_of_lt (small w) ∙ ap bit same
    ]

-- ---- reversal

bit_at-shr : (x j i : ℕ) → bit_at (x / 2 ^ j) i ≡ bit_at x (j + i)
bit_at-shr x j i = ap (λ n. n % 2) (shr-shr x j i)

halved : (a n : ℕ) → (a * 2 + n % 2) / 2 ≡ a
halved a n = omega arith

lowest_of_pair : (a n : ℕ) → (a * 2 + n % 2) % 2 ≡ n % 2
lowest_of_pair a n = omega arith

-- above the reversed bits stand those that were there before
bit_at-reversed_above : (k n a i : ℕ) → bit_at (reverse_bits_onto k n a) (i + k) ≡ bit_at a i
unfolding reverse_bits_onto
bit_at-reversed_above zero n a i = ap (bit_at a) (add-zero i)
bit_at-reversed_above (suc k) n a i =
    let index : i + suc k ≡ suc i + k = omega arith in
    ap (bit_at (reverse_bits_onto k (n / 2) (a * 2 + n % 2))) index ∙ bit_at-reversed_above k (n / 2) (a * 2 + n % 2) (suc i)
    ∙ bit_at-suc (a * 2 + n % 2) i ∙ ap (λ x. bit_at x i) (halved a n)

-- the reversed bits are those of the number, counted from the other end
bit_at-reversed : (k n a i : ℕ) → i < k → bit_at (reverse_bits_onto k n a) i ≡ bit_at n (k - 1 - i)
unfolding reverse_bits_onto
bit_at-reversed zero n a i h = omega arith
bit_at-reversed (suc k) n a i h =
    elim (cases_lt i k) [
      | inl low ↦
          let index : suc (k - 1 - i) ≡ suc k - 1 - i = omega arith in
          bit_at-reversed k (n / 2) (a * 2 + n % 2) i low ∙ sym (bit_at-suc n (k - 1 - i)) ∙ ap (bit_at n) index
      | inr top ↦
          let same : i ≡ 0 + k = omega arith in
          let lowest : 0 ≡ suc k - 1 - i = omega arith in
          ap (bit_at (reverse_bits_onto k (n / 2) (a * 2 + n % 2))) same ∙ bit_at-reversed_above k (n / 2) (a * 2 + n % 2) 0
          ∙ bit_at_lowest (a * 2 + n % 2) ∙ lowest_of_pair a n ∙ sym (bit_at_lowest n) ∙ ap (bit_at n) lowest
    ]

-- the highest w bits of a word of k bits that was reversed are its lowest w bits in reverse order
pub reversed_word : (k w n : ℕ) → w ≤ k → reverse_bits_onto k n 0 / 2 ^ (k - w) ≡ number_of_bits w (λ i. bit_at n (w - 1 - i))
reversed_word k w n within =
    let bit : ℕ → ℕ = λ i. bit_at n (w - 1 - i) in
    let small : (i : ℕ) → bit i < 2 = λ i. bit_at-lt n (w - 1 - i) in
    same_from_bits (reverse_bits_onto k n 0 / 2 ^ (k - w)) (number_of_bits w bit)
    (λ i. bit_at-shr (reverse_bits_onto k n 0) (k - w) i
    ∙ elim (cases_lt i w) as (λ _. bit_at (reverse_bits_onto k n 0) (k - w + i) ≡ bit_at (number_of_bits w bit) i) [
      | inl low ↦
          let place : k - w + i < k = omega arith in
          let index : k - 1 - (k - w + i) ≡ w - 1 - i = omega arith in
          bit_at-reversed k n 0 (k - w + i) place ∙ ap (bit_at n) index ∙ sym (bit_at-number_of_bits w bit i small low)
      | inr high ↦
          let index : k - w + i ≡ i - w + k = omega arith in
          ap (bit_at (reverse_bits_onto k n 0)) index ∙ bit_at-reversed_above k n 0 (i - w) ∙ bit_at-zero (i - w)
          ∙ sym (bit_at_above (number_of_bits w bit) w i (number_of_bits-lt w bit small) high)
    ])

pub reversed_within : (k w n : ℕ) → w ≤ k → 1 ≤ w → w ≤ 128 → IsBitVector w (reverse_bits_onto k n 0 / 2 ^ (k - w))
reversed_within k w n within some most =
    let e = reversed_word k w n within in
    let below = number_of_bits-lt w (λ i. bit_at n (w - 1 - i)) (λ i. bit_at-lt n (w - 1 - i)) in
    record { some_bit = some; no_wider = most; in_range = rw e below }
