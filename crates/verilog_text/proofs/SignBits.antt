-- The sign bit of a bit vector, repeated above it, is the extension that keeps the signed reading.
use Rattle.std.proofs.Common.{◌≡◌, ℕ, zero, suc, ◌+◌, ◌-◌, ◌*◌, ◌/◌, ◌%◌, ◌^◌, ◌<◌, ◌≤◌, inl, inr, arith, lit<, refl, sym, ap, ap₂, subst, ◌∙◌}
use Rattle.std.proofs.Math.Nat.{div-eq_of_lt, mod-eq_of_lt, pow-succ'}
use Rattle.std.proofs.lemmas.Bool.{cases_lt}
use Rattle.std.proofs.lemmas.Nat.{pow_pos, pow-add, shr_high}
use Rattle.kw_bits.specs.BitVector.{BitVector, IsBits}
use Rattle.kw_bits.specs.Operators as op
use Rattle.kw_bits.proofs.Signs.{sext-high, sext-low}
use Rattle.net_graph.specs.Operators.{sext_value}
use Rattle.verilog_text.specs.Runs.{extended, repeated}

-- two bit vectors of one width and one number are equal
pub same_bits : (w v x y : ℕ) → w ≡ v → x ≡ y
    → (let a : BitVector = record { width = w; number = x } in a) ≡ record { width = v; number = y }
same_bits w v x y same equal =
    ap₂ (λ (k : ℕ) (n : ℕ). let a : BitVector = record { width = k; number = n } in a) same equal

-- ---- a bit, repeated

repeated-width : (count : ℕ) (a : BitVector) → a.width ≡ 1 → (repeated count a).width ≡ count
unfolding repeated op.concat
repeated-width zero a one = refl
repeated-width (suc count) a one = omega (arith, one, repeated-width count a one)

one-more : (n k : ℕ) → n * (k + 1) + n * k ≡ n * (2 * k + 1)
one-more n k = omega arith

one-below : (count k : ℕ) → 2 ^ count ≡ k + 1 → 2 ^ suc count - 1 ≡ 2 * k + 1
one-below count k is = let double : 2 ^ suc count ≡ 2 * 2 ^ count = pow-succ' 2 count in omega (arith, double, is)

repeated-number : (count : ℕ) (a : BitVector) → a.width ≡ 1 → (repeated count a).number ≡ a.number * (2 ^ count - 1)
unfolding repeated op.concat
repeated-number zero a one = omega arith
repeated-number (suc count) a one =
    let k : ℕ = 2 ^ count - 1 in
    let positive = pow_pos count in
    let is : 2 ^ count ≡ k + 1 = omega (arith, positive) in
    ap₂ (λ (w : ℕ) (n : ℕ). a.number * 2 ^ w + n) (repeated-width count a one) (repeated-number count a one)
    ∙ ap (λ x. a.number * x + a.number * k) is ∙ one-more a.number k
    ∙ ap (λ x. a.number * x) (sym (one-below count k is))

-- ---- the highest bit

abbrev top_bit : BitVector → ℕ → BitVector
top_bit a top = op.slice a top top

one-bit : (top : ℕ) → top - top + 1 ≡ 1
one-bit top = omega arith

top-width : (a : BitVector) (top : ℕ) → (top_bit a top).width ≡ 1
unfolding op.slice
top-width a top = one-bit top

top-number : (a : BitVector) (top bit : ℕ) → a.number / 2 ^ top ≡ bit → bit < 2 → (top_bit a top).number ≡ bit
unfolding op.slice
top-number a top bit is below =
    let within : bit < 2 ^ 1 = below in
    ap₂ (λ (x : ℕ) (w : ℕ). x % 2 ^ w) is (one-bit top) ∙ mod-eq_of_lt within

-- the number of a bit vector with its highest bit repeated above it
extended-number : (a : BitVector) (top count bit : ℕ) → a.number / 2 ^ top ≡ bit → bit < 2
    → (extended a top count).number ≡ bit * (2 ^ count - 1) * 2 ^ a.width + a.number
unfolding extended op.concat
extended-number a top count bit is below =
    ap (λ n. n * 2 ^ a.width + a.number) (repeated-number count (top_bit a top) (top-width a top)
    ∙ ap (λ n. n * (2 ^ count - 1)) (top-number a top bit is below))

extended-width : (a : BitVector) (top count : ℕ) → (extended a top count).width ≡ count + a.width
unfolding extended op.concat
extended-width a top count = ap (λ w. w + a.width) (repeated-width count (top_bit a top) (top-width a top))

-- ---- the extension

low-number : (n m p : ℕ) → 0 * m * p + n ≡ n
low-number n m p = omega arith

high-number : (n p k : ℕ) → n < p → 1 * k * p + n ≡ p * (k + 1) - 1 - (p - 1 - n)
high-number n p k below = omega (arith, below)

sext-low-number : (a : BitVector) (width : ℕ) → a.number < 2 ^ a.width → a.width ≤ width → a.number < 2 ^ (a.width - 1)
    → op.sext a width ≡ record { width = width; number = a.number }
unfolding op.zext
sext-low-number a width p wider low = sext-low a width p wider low

sext-high-number : (a : BitVector) (width : ℕ) → a.number < 2 ^ a.width → a.width ≤ width
    → 2 ^ (a.width - 1) ≤ a.number
    → op.sext a width ≡ record { width = width; number = 2 ^ width - 1 - (2 ^ a.width - 1 - a.number) }
unfolding op.zext op.not
sext-high-number a width p wider high = sext-high a width p wider high

bits-are : (a : BitVector) (w n : ℕ) → a.width ≡ w → a.number ≡ n → a ≡ record { width = w; number = n }
bits-are a w n wide is = same_bits a.width w a.number n wide is

pub extended-sext : (a : BitVector) (top count : ℕ) → IsBits a → a.width ≡ top + 1
    → extended a top count ≡ sext_value a count
unfolding sext_value
extended-sext a top count bits wide =
    let below : top ≡ a.width - 1 = omega (arith, wide) in
    let wider : a.width ≤ a.width + count = omega arith in
    let width : (extended a top count).width ≡ a.width + count = extended-width a top count ∙ omega arith in
    elim (cases_lt a.number (2 ^ top)) [
      | inl low ↦
          let less : a.number < 2 ^ (a.width - 1) = subst (λ k. a.number < 2 ^ k) below low in
          bits-are (extended a top count) (a.width + count) a.number width
          (extended-number a top count 0 (div-eq_of_lt low) (lit< tt)
          ∙ low-number a.number (2 ^ count - 1) (2 ^ a.width))
          ∙ sym (sext-low-number a (a.width + count) bits.in_range wider less)
      | inr high ↦
          let more : 2 ^ (a.width - 1) ≤ a.number = subst (λ k. 2 ^ k ≤ a.number) below high in
          let wider-by : a.width ≡ suc top = omega (arith, wide) in
          let double : 2 ^ a.width ≡ 2 * 2 ^ top = ap (λ k. 2 ^ k) wider-by ∙ pow-succ' 2 top in
          let rest : ℕ = a.number - 2 ^ top in
          let parts : 1 * 2 ^ top + rest ≡ a.number = omega (arith, high) in
          let small : rest < 2 ^ top = omega (arith, bits.in_range, double, high) in
          let bit : a.number / 2 ^ top ≡ 1 = ap (λ n. n / 2 ^ top) (sym parts) ∙ shr_high 1 top rest small in
          let k : ℕ = 2 ^ count - 1 in
          let positive = pow_pos count in
          let counted : k + 1 ≡ 2 ^ count = omega (arith, positive) in
          let whole : 2 ^ a.width * (k + 1) ≡ 2 ^ (a.width + count) = ap (λ x. 2 ^ a.width * x) counted
          ∙ sym (pow-add 2 a.width count) in
          bits-are (extended a top count) (a.width + count)
          (2 ^ (a.width + count) - 1 - (2 ^ a.width - 1 - a.number)) width
          (extended-number a top count 1 bit (lit< tt) ∙ high-number a.number (2 ^ a.width) k bits.in_range
          ∙ ap (λ x. x - 1 - (2 ^ a.width - 1 - a.number)) whole)
          ∙ sym (sext-high-number a (a.width + count) bits.in_range wider more)
    ]

-- no bit more
extended-none : (a : BitVector) → extended a (a.width - 1) 0 ≡ a
unfolding extended repeated op.concat
extended-none a = same_bits (0 + a.width) a.width (0 * 2 ^ a.width + a.number) a.number (omega arith) (omega arith)

pub sext-none : (a : BitVector) → IsBits a → sext_value a 0 ≡ a
sext-none a bits =
    let some = bits.some_bit in
    let wide : a.width ≡ a.width - 1 + 1 = omega (arith, some) in
    sym (extended-sext a (a.width - 1) 0 bits wide) ∙ extended-none a
