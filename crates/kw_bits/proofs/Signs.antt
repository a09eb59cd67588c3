-- What the sign of a bit vector is, and what it makes of the operators that read it.
use Rattle.std.proofs.Common.{◌≡◌, ℕ, ◌-◌, ◌/◌, ◌%◌, ◌^◌, ◌<◌, ◌≤◌, min, pos, negsuc, ◌-ℤ◌, ltb, le_refl, inl, inr, lit<, arith, rules, refl, sym, subst, ap, ap₂, ◌∙◌}
use Rattle.std.proofs.Math.Nat.{mod-eq_of_lt, zero-mod, pow-le-pow_right}
use Rattle.std.proofs.lemmas.Bool.{cases_lt}
use Rattle.std.proofs.lemmas.Bool.Decides.{nat_tests}
use Rattle.std.proofs.lemmas.Int.{ints}
use Rattle.std.proofs.lemmas.Nat.{shr_le}
use Rattle.std.specs.Prelude.{Bool, true, false, cond, MatchBool, int_lt}
use mathlib.Core.Bool.{beq}
use Rattle.std.specs.Int.{int_div_euclid}
use Rattle.kw_bits.specs.BitVector.{BitVector}
use Rattle.kw_bits.specs.Operators.{not, srl, zext, signed, residue, sra, sext}
use Rattle.kw_bits.proofs.Words.{shifted_down_out}

-- ---- the signed reading

-- a number less a greater one
below_zero : (n m : ℕ) → n < m → pos n -ℤ pos m ≡ negsuc (m - 1 - n)
below_zero n m h = omega (arith, ints)

-- where the highest bit is 0, the signed reading is the number
pub signed-low : (a : BitVector) → a.number < 2 ^ (a.width - 1) → signed a ≡ pos a.number
unfolding signed
signed-low a h = search rules

-- where it is 1, the signed reading is as far below -1 as the complement is above 0
pub signed-high : (a : BitVector) → a.number < 2 ^ a.width → 2 ^ (a.width - 1) ≤ a.number → signed a ≡ negsuc (2 ^ a.width - 1 - a.number)
unfolding signed
signed-high a p h = let e = below_zero a.number (2 ^ a.width) p in search (rules, e)

residue-pos : (n w : ℕ) → residue (pos n) w ≡ n % 2 ^ w
unfolding residue
residue-pos n w = refl

residue-negsuc : (n w : ℕ) → residue (negsuc n) w ≡ 2 ^ w - 1 - n % 2 ^ w
unfolding residue
residue-negsuc n w = refl

-- ---- the shift that keeps the sign

-- an amount above the width leaves what the width leaves, and nothing to cut
quotient_at_amount : (n w b : ℕ) → n < 2 ^ w → n / 2 ^ min b w % 2 ^ w ≡ n / 2 ^ b
quotient_at_amount n w b h =
    elim (cases_lt w b) [
      | inl over ↦
          let least : min b w ≡ w = omega arith in
          let at_width = shifted_down_out n w w h (le_refl w) in
          ap (λ k. n / 2 ^ k % 2 ^ w) least ∙ ap (λ x. x % 2 ^ w) at_width ∙ zero-mod (2 ^ w) ∙ sym (shifted_down_out n b w h (omega arith))
      | inr within ↦
          let least : min b w ≡ b = omega arith in
          let below : n / 2 ^ b < 2 ^ w = omega (arith, shr_le n b) in
          ap (λ k. n / 2 ^ k % 2 ^ w) least ∙ mod-eq_of_lt below
    ]

pub sra-low : (a b : BitVector) → a.number < 2 ^ a.width → a.number < 2 ^ (a.width - 1) → sra a b ≡ srl a b
unfolding sra srl
sra-low a b p h =
    let m : ℕ = 2 ^ min b.number a.width in
    let number : residue (int_div_euclid (signed a) (pos m)) a.width ≡ a.number / 2 ^ b.number =
    ap (λ z. residue (int_div_euclid z (pos m)) a.width) (signed-low a h) ∙ residue-pos (a.number / m) a.width
    ∙ quotient_at_amount a.number a.width b.number p in
    ap (λ n. record { width = a.width; number = n }) number

pub sra-high : (a b : BitVector) → a.number < 2 ^ a.width → 2 ^ (a.width - 1) ≤ a.number → sra a b ≡ not (srl (not a) b)
unfolding sra srl not
sra-high a b p h =
    let m : ℕ = 2 ^ min b.number a.width in
    let n : ℕ = 2 ^ a.width - 1 - a.number in
    let below : n < 2 ^ a.width = omega arith in
    let number : residue (int_div_euclid (signed a) (pos m)) a.width ≡ 2 ^ a.width - 1 - n / 2 ^ b.number =
    ap (λ z. residue (int_div_euclid z (pos m)) a.width) (signed-high a p h) ∙ residue-negsuc (n / m) a.width
    ∙ ap (λ x. 2 ^ a.width - 1 - x) (quotient_at_amount n a.width b.number below) in
    ap (λ x. record { width = a.width; number = x }) number

-- ---- the extension that keeps the sign

-- a number of a width is below 2 to each greater width
below_wider : (n w v : ℕ) → n < 2 ^ w → w ≤ v → n < 2 ^ v
below_wider n w v h wider =
    let grows : 2 ^ w ≤ 2 ^ v = pow-le-pow_right (lit< tt) wider in
    omega arith

pub sext-low : (a : BitVector) (width : ℕ) → a.number < 2 ^ a.width → a.width ≤ width → a.number < 2 ^ (a.width - 1) → sext a width ≡ zext a width
unfolding sext zext
sext-low a width p wider h =
    ap (λ n. record { width = width; number = n })
    (ap (λ z. residue z width) (signed-low a h) ∙ residue-pos a.number width ∙ mod-eq_of_lt (below_wider a.number a.width width p wider))

pub sext-high : (a : BitVector) (width : ℕ) → a.number < 2 ^ a.width → a.width ≤ width → 2 ^ (a.width - 1) ≤ a.number → sext a width ≡ not (zext (not a) width)
unfolding sext zext not
sext-high a width p wider h =
    let n : ℕ = 2 ^ a.width - 1 - a.number in
    let below : n < 2 ^ a.width = omega arith in
    ap (λ x. record { width = width; number = x })
    (ap (λ z. residue z width) (signed-high a p h) ∙ residue-negsuc n width ∙ ap (λ x. 2 ^ width - 1 - x) (mod-eq_of_lt (below_wider n a.width width below wider)))

-- ---- the order of signed readings

-- the sign of a bit vector: whether its highest bit is 1
abbrev pub HasSign : Bool → BitVector → Type 0
HasSign negative a = MatchBool negative (2 ^ (a.width - 1) ≤ a.number) (a.number < 2 ^ (a.width - 1))

turned_order : (m a b : ℕ) → a < m → b < m → ltb (m - 1 - b) (m - 1 - a) ≡ ltb a b
turned_order m a b p q = grind (arith, nat_tests)

-- with equal signs it is that of the numbers, and with different signs the negative one is below
pub int_lt-signed : (x y : Bool) (a b : BitVector) → a.width ≡ b.width → a.number < 2 ^ a.width → b.number < 2 ^ b.width → HasSign x a → HasSign y b → int_lt (signed a) (signed b) ≡ cond (beq x y) (ltb a.number b.number) x
int_lt-signed false false a b same p q h k = ap₂ int_lt (signed-low a h) (signed-low b k)
int_lt-signed false true a b same p q h k = ap₂ int_lt (signed-low a h) (signed-high b q k)
int_lt-signed true false a b same p q h k = ap₂ int_lt (signed-high a p h) (signed-low b k)
int_lt-signed true true a b same p q h k =
    let below : a.number < 2 ^ b.width = subst (λ (w : ℕ). a.number < 2 ^ w) same p in
    ap₂ int_lt (signed-high a p h) (signed-high b q k) ∙ ap (λ w. ltb (2 ^ b.width - 1 - b.number) (2 ^ w - 1 - a.number)) same
    ∙ turned_order (2 ^ b.width) a.number b.number below q
