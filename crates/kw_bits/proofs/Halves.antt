-- The two arguments that the halves of an input are, and the answers to them.
use Rattle.std.proofs.Common.{◌≡◌, ℕ, ◌+◌, ◌-◌, ◌*◌, ◌/◌, ◌%◌, ◌^◌, ◌<◌, ◌≤◌, min, cond, eqb, bit_xor, count_ones, ap, ap₂, subst, ◌∙◌, arith, lit<}
use Rattle.std.proofs.Math.Nat.{div-lt_iff_lt-mul, min-eq_left, min-eq_right, min-le_right, pow-le-pow_right}
use Rattle.std.proofs.lemmas.Nat.{pow_pos, pow-add, mod_below, shr_high, mod_low, xor_lt}
use Rattle.std.proofs.lemmas.Nat.Bits.{bit_at-lt}
use Rattle.std.specs.Int.{bit_at}
use Rattle.kw_bits.specs.BitVector.{IsBitVector}
use Rattle.kw_bits.specs.Host.{high_half, low_half, interleaved_bit, answer}
use Rattle.kw_bits.specs.declared.host.HostKind.TheVariants.{Morton, SatAdd}
use Rattle.kw_bits.specs.Laws.{HammingCountsDifferences, MortonTakesTurns, SatAddSaturates}
use Rattle.kw_bits.proofs.Counts.{count_ones_within}
use Rattle.kw_bits.proofs.Reversal.{bit_at-number_of_bits}

-- ---- the halves of an input of an even number of bits

half_of_double : (h : ℕ) → 2 * h / 2 ≡ h
half_of_double h = omega arith

-- what was joined is taken apart
pub high_half-joined : (h x y : ℕ) → y < 2 ^ h → high_half (2 * h) (x * 2 ^ h + y) ≡ x
unfolding high_half
high_half-joined h x y below = ap (λ k. (x * 2 ^ h + y) / 2 ^ k) (half_of_double h) ∙ shr_high x h y below

pub low_half-joined : (h x y : ℕ) → y < 2 ^ h → low_half (2 * h) (x * 2 ^ h + y) ≡ y
unfolding low_half
low_half-joined h x y below = ap (λ k. (x * 2 ^ h + y) % 2 ^ k) (half_of_double h) ∙ mod_low x h y below

-- each half is below 2 to half the width
pub high_half-lt : (w x : ℕ) → w % 2 ≡ 0 → x < 2 ^ w → high_half w x < 2 ^ (w / 2)
unfolding high_half
high_half-lt w x even h =
    let e : w ≡ w / 2 + w / 2 = omega arith in
    let product : 2 ^ w ≡ 2 ^ (w / 2) * 2 ^ (w / 2) = ap (λ k. 2 ^ k) e ∙ pow-add 2 (w / 2) (w / 2) in
    (div-lt_iff_lt-mul (pow_pos (w / 2))).1 (subst (λ (n : ℕ). x < n) product h)

pub low_half-lt : (w x : ℕ) → low_half w x < 2 ^ (w / 2)
unfolding low_half
low_half-lt w x = mod_below x (2 ^ (w / 2)) (pow_pos (w / 2))

-- ---- the answers are bit vectors

-- an input of at most 12 bits is below 2 to the 12, and so are its halves
pub below_widest : (w x : ℕ) → w ≤ 12 → x < 2 ^ w → x < 2 ^ 12
below_widest w x most h =
    let grows : 2 ^ w ≤ 2 ^ 12 = pow-le-pow_right (lit< tt) most in
    omega arith

pub halves_within : (w x : ℕ) → w ≤ 12 → w % 2 ≡ 0 → x < 2 ^ w → (high_half w x < 2 ^ 6) × (low_half w x < 2 ^ 6)
halves_within w x most even h =
    let few : w / 2 ≤ 6 = omega arith in
    let grows : 2 ^ (w / 2) ≤ 2 ^ 6 = pow-le-pow_right (lit< tt) few in
    let high = high_half-lt w x even h in
    let low = low_half-lt w x in
    (omega arith, omega arith)

pub two_bits : {w : ℕ} → 1 ≤ w → w % 2 ≡ 0 → 2 ≤ w
two_bits some even = omega arith

pub hamming_within : (w x : ℕ) → w ≤ 12 → w % 2 ≡ 0 → x < 2 ^ w → IsBitVector 4 (count_ones (bit_xor (high_half w x) (low_half w x)))
hamming_within w x most even h =
    count_ones_within (w / 2) _ (omega arith) (xor_lt (w / 2) (high_half w x) (low_half w x) (high_half-lt w x even h) (low_half-lt w x))

pub interleaved_bit-lt : (x y i : ℕ) → interleaved_bit x y i < 2
unfolding interleaved_bit
interleaved_bit-lt x y i = bit_at-lt _ (i / 2)

pub sat_add_within : (w n : ℕ) → 2 ≤ w → w ≤ 12 → IsBitVector (w / 2) (min n (2 ^ (w / 2) - 1))
sat_add_within w n some most =
    let positive = pow_pos (w / 2) in
    let least = min-le_right n (2 ^ (w / 2) - 1) in
    record { some_bit = omega arith; no_wider = omega arith; in_range = omega arith }

-- ---- the answers to two arguments

pub hamming-joined : HammingCountsDifferences
unfolding answer
hamming-joined h x y below = ap₂ (λ a b. count_ones (bit_xor a b)) (high_half-joined h x y below) (low_half-joined h x y below)

interleaved_bit-even : (x y i : ℕ) → interleaved_bit x y (2 * i) ≡ bit_at x i
unfolding interleaved_bit
interleaved_bit-even x y i =
    let even : 2 * i % 2 ≡ 0 = omega arith in
    let place : 2 * i / 2 ≡ i = omega arith in
    ap₂ (λ r k. bit_at (cond (eqb r 0) x y) k) even place

interleaved_bit-odd : (x y i : ℕ) → interleaved_bit x y (2 * i + 1) ≡ bit_at y i
unfolding interleaved_bit
interleaved_bit-odd x y i =
    let odd : (2 * i + 1) % 2 ≡ 1 = omega arith in
    let place : (2 * i + 1) / 2 ≡ i = omega arith in
    ap₂ (λ r k. bit_at (cond (eqb r 0) x y) k) odd place

bit_at-morton : (h x y k : ℕ) → y < 2 ^ h → k < 2 * h → bit_at (answer Morton (2 * h) (x * 2 ^ h + y)) k ≡ interleaved_bit x y k
unfolding answer
bit_at-morton h x y k below within =
    bit_at-number_of_bits (2 * h) _ k (interleaved_bit-lt _ _) within
    ∙ ap₂ (λ a b. interleaved_bit a b k) (high_half-joined h x y below) (low_half-joined h x y below)

pub morton-joined : MortonTakesTurns
morton-joined h x y i below within = (
  bit_at-morton h x y (2 * i) below (omega arith) ∙ interleaved_bit-even x y i,
  bit_at-morton h x y (2 * i + 1) below (omega arith) ∙ interleaved_bit-odd x y i,
)

sat_add-joined_min : (h x y : ℕ) → y < 2 ^ h → answer SatAdd (2 * h) (x * 2 ^ h + y) ≡ min (x + y) (2 ^ h - 1)
unfolding answer
sat_add-joined_min h x y below =
    ap₂ (λ a b. min (a + b) (2 ^ (2 * h / 2) - 1)) (high_half-joined h x y below) (low_half-joined h x y below)
    ∙ ap (λ k. min (x + y) (2 ^ k - 1)) (half_of_double h)

pub sat_add-joined : SatAddSaturates
sat_add-joined h x y below =
    let e = sat_add-joined_min h x y below in
    (λ fits. e ∙ min-eq_left (omega arith), λ over. e ∙ min-eq_right (omega arith))
