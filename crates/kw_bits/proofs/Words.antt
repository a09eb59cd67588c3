-- What the operations of machine words leave of a bit vector's number.
use Rattle.std.proofs.Common.{◌≡◌, ℕ, ◌+◌, ◌-◌, ◌*◌, ◌/◌, ◌%◌, ◌^◌, ◌<◌, ◌≤◌, bit_or, bit_xor, lit<, arith, subst, sym, ap, ◌∙◌, add_comm}
use Rattle.std.proofs.Math.Nat.{add-mul-mod_self_right, mul-mod_left, div-eq_of_lt, pow-le-pow_right, mul_assoc}
use Rattle.std.proofs.Math.Pow.{mod-mod-pow}
use Rattle.std.proofs.lemmas.Nat.{or_lt, xor_lt, pow_pos, pow-add, or_shifted, shl_whole, mul-add-lt}
use Rattle.kw_bits.specs.BitVector.{IsBitVector}

-- ---- what a word that is cut to the width leaves

-- a number that was cut to a machine word first has the same low bits
pub cut_of_word : (n w : ℕ) → w ≤ 128 → n % 2 ^ 128 % 2 ^ w ≡ n % 2 ^ w
cut_of_word n w within =
    let e : 128 - w + w ≡ 128 = omega arith in
    subst (λ (k : ℕ). n % 2 ^ k % 2 ^ w ≡ n % 2 ^ w) e (mod-mod-pow n (128 - w) w)

pub more_of_a_multiple : (a b m k : ℕ) → b ≤ m → a + ((k + 1) * m - b) ≡ a + (m - b) + k * m
more_of_a_multiple a b m k h = omega arith

-- so has a difference, which a word takes from a greater power of 2
pub cut_of_difference : (a b w : ℕ) → b < 2 ^ w → w ≤ 128 → (a + (2 ^ 128 - b)) % 2 ^ 128 % 2 ^ w ≡ (a + (2 ^ w - b)) % 2 ^ w
cut_of_difference a b w h within =
    let k : ℕ = 2 ^ (128 - w) - 1 in
    let positive = pow_pos (128 - w) in
    let one_more : k + 1 ≡ 2 ^ (128 - w) = omega arith in
    let e : 128 - w + w ≡ 128 = omega arith in
    let whole : 2 ^ 128 ≡ (k + 1) * 2 ^ w =
    subst (λ (x : ℕ). 2 ^ x ≡ 2 ^ (128 - w) * 2 ^ w) e (pow-add 2 (128 - w) w) ∙ ap (λ x. x * 2 ^ w) (sym one_more) in
    let below : b ≤ 2 ^ w = omega arith in
    let more : a + (2 ^ 128 - b) ≡ a + (2 ^ w - b) + k * 2 ^ w =
    ap (λ x. a + (x - b)) whole ∙ more_of_a_multiple a b (2 ^ w) k below in
    cut_of_word (a + (2 ^ 128 - b)) w within ∙ ap (λ x. x % 2 ^ w) more ∙ add-mul-mod_self_right (a + (2 ^ w - b)) k (2 ^ w)

-- ---- what a shift is

-- shifted up by the width or more, nothing is left of the low bits
pub shifted_out : (a b w : ℕ) → w ≤ b → a * 2 ^ b % 2 ^ w ≡ 0
shifted_out a b w h =
    let e : b ≡ b - w + w = omega arith in
    let product : a * 2 ^ b ≡ a * 2 ^ (b - w) * 2 ^ w =
    ap (λ x. a * 2 ^ x) e ∙ ap (λ x. a * x) (pow-add 2 (b - w) w) ∙ sym (mul_assoc a (2 ^ (b - w)) (2 ^ w)) in
    ap (λ x. x % 2 ^ w) product ∙ mul-mod_left (a * 2 ^ (b - w)) (2 ^ w)

-- shifted down by the width or more, nothing is left at all
pub shifted_down_out : (a b w : ℕ) → a < 2 ^ w → w ≤ b → a / 2 ^ b ≡ 0
shifted_down_out a b w h more =
    let grows : 2 ^ w ≤ 2 ^ b = pow-le-pow_right (lit< tt) more in
    div-eq_of_lt (omega arith)

-- ---- when a number is one of a width

-- the bits of two numbers of one width stay within it
pub or_within : (w a b : ℕ) → IsBitVector w a → IsBitVector w b → IsBitVector w (bit_or a b)
or_within w a b p q = record { some_bit = p.some_bit; no_wider = p.no_wider; in_range = or_lt w a b p.in_range q.in_range }

pub xor_within : (w a b : ℕ) → IsBitVector w a → IsBitVector w b → IsBitVector w (bit_xor a b)
xor_within w a b p q = record { some_bit = p.some_bit; no_wider = p.no_wider; in_range = xor_lt w a b p.in_range q.in_range }

-- and so does a smaller number
pub lower_within : (w a b : ℕ) → IsBitVector w a → b ≤ a → IsBitVector w b
lower_within w a b p h = record { some_bit = p.some_bit; no_wider = p.no_wider; in_range = omega arith }

-- a number of a width is one of each greater width
pub within_wider : (w v a : ℕ) → IsBitVector w a → w ≤ v → v ≤ 128 → IsBitVector v a
within_wider w v a p h most =
    let grows : 2 ^ w ≤ 2 ^ v = pow-le-pow_right (lit< tt) h in
    record { some_bit = omega arith; no_wider = most; in_range = omega arith }

-- bits above others are of the two widths together
pub joined_within : (w v a b : ℕ) → IsBitVector w a → IsBitVector v b → w + v ≤ 128 → IsBitVector (w + v) (a * 2 ^ v + b)
joined_within w v a b p q h =
    let below = mul-add-lt a (2 ^ v) b (2 ^ w) p.in_range q.in_range in
    let product : 2 ^ (w + v) ≡ 2 ^ v * 2 ^ w = ap (λ x. 2 ^ x) (add_comm w v) ∙ pow-add 2 v w in
    record { some_bit = omega arith; no_wider = h; in_range = subst (λ (x : ℕ). a * 2 ^ v + b < x) (sym product) below }

-- and a word joins them as the sum does
pub joined : (w v a b : ℕ) → IsBitVector w a → IsBitVector v b → w + v ≤ 128 → bit_or (a * 2 ^ v % 2 ^ 128) b ≡ a * 2 ^ v + b
joined w v a b p q h = ap (λ x. bit_or x b) (shl_whole a w v 128 p.in_range h) ∙ or_shifted a v b q.in_range

-- for the goals of the operators
pub ruleset words = (cut_of_word, cut_of_difference, shifted_out, shifted_down_out, or_within, xor_within, joined)
