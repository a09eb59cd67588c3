-- The laws of the operators, for the proofs of this crate's callers.
use Rattle.std.proofs.Common.{◌≡◌, ℕ, suc, ◌+◌, ◌-◌, ◌*◌, ◌/◌, ◌%◌, ◌^◌, ◌<◌, ◌≤◌, Bool, true, false, bit_and, count_ones, refl, sym, ap, ap₂, subst, ℤ, pos, negsuc, ◌∙◌, arith, lit<, lit≤, inl, inr, cond, eqb}
use Rattle.std.proofs.Math.Nat.{mod-eq_of_lt, mod-add-mod, add-mod_right, div-le_self, div-one, pow-le-pow_right, pow-suc}
use Rattle.std.proofs.Math.Pow.{not_mod}
use Rattle.std.proofs.lemmas.Bool.{cases_lt}
use Rattle.std.proofs.lemmas.Bool.Decides.{nat_tests}
use Rattle.std.proofs.lemmas.Nat.Bits.{bit_at-lt}
use Rattle.std.proofs.lemmas.Nat.{pow_pos, mod_below, and_le_l, shr_high, mod_low, mod-pow-add, shr-shr, leading_length}
use Rattle.std.specs.Int.Count.{count_leading_zeros}
use Rattle.kw_bits.specs.BitVector.{BitVector, IsBitVector, IsBits}
use Rattle.kw_bits.specs.Operators.{not, neg, and, or, xor, add, sub, mul, sll, srl, sra, signed, residue, flag, redand, redor, redxor, eq_bits, ult, ulte, slt, slte, concat, slice, zext, sext}
use Rattle.kw_bits.specs.Host.{value, answer, out_width, arity}
use Rattle.kw_bits.specs.declared.host.HostKind.TheVariants.{Popcount, Parity, Reverse, LeadingZeros, Gray, Hamming, Morton, SatAdd}
use Rattle.kw_bits.specs.Laws.{HostAnswers, SubUndoesAdd, SextKeepsSigned, ReverseTurnsBits, LeadingZerosAndDigits, HasWidth, KeepsWidth, MakesOneBit, KeepsCommonWidth, ComparesToOneBit, Extends, Joins, Slices, SliceUndoesConcat, ConcatUndoesSlice, WholeSlice, SliceUndoes, OneBitIsFlag, FlagLogic}
use Rattle.kw_bits.proofs.Counts.{same_digits, count_ones_within, leading_zeros_within}
use Rattle.kw_bits.proofs.Halves.{hamming_within, interleaved_bit-lt, sat_add_within, two_bits}
use Rattle.kw_bits.proofs.Reversal.{bit_at-number_of_bits, number_of_bits-lt}
use Rattle.kw_bits.proofs.Signs.{sext-low, sext-high, signed-low, signed-high}
use Rattle.kw_bits.proofs.Words.{lower_within, or_within, xor_within, within_wider, joined_within}

-- ---- what the operators make

-- a remainder by 2 to the width
cut_within : (w n : ℕ) → 1 ≤ w → w ≤ 128 → IsBitVector w (n % 2 ^ w)
cut_within w n some most =
    record { some_bit = some; no_wider = most; in_range = mod_below n (2 ^ w) (pow_pos w) }

-- what is left below 2 to the width
complement_within : (w n : ℕ) → 1 ≤ w → w ≤ 128 → IsBitVector w (2 ^ w - 1 - n)
complement_within w n some most =
    let positive = pow_pos w in
    record { some_bit = some; no_wider = most; in_range = omega arith }

pub not-HasWidth : KeepsWidth not
unfolding not
not-HasWidth a p = (complement_within a.width a.number p.some_bit p.no_wider, refl)

pub neg-HasWidth : KeepsWidth neg
unfolding neg
neg-HasWidth a p = (cut_within a.width (2 ^ a.width - a.number) p.some_bit p.no_wider, refl)

pub and-HasWidth : KeepsCommonWidth and
unfolding and
and-HasWidth a b p q same = (lower_within a.width a.number (bit_and a.number b.number) p (and_le_l a.number b.number), refl)

pub or-HasWidth : KeepsCommonWidth or
unfolding or
or-HasWidth a b p q same = (or_within a.width a.number b.number p (subst (λ (w : ℕ). IsBitVector w b.number) (sym same) q), refl)

pub xor-HasWidth : KeepsCommonWidth xor
unfolding xor
xor-HasWidth a b p q same = (xor_within a.width a.number b.number p (subst (λ (w : ℕ). IsBitVector w b.number) (sym same) q), refl)

pub add-HasWidth : KeepsCommonWidth add
unfolding add
add-HasWidth a b p q same = (cut_within a.width (a.number + b.number) p.some_bit p.no_wider, refl)

pub sub-HasWidth : KeepsCommonWidth sub
unfolding sub
sub-HasWidth a b p q same = (cut_within a.width (a.number + (2 ^ a.width - b.number)) p.some_bit p.no_wider, refl)

pub mul-HasWidth : KeepsCommonWidth mul
unfolding mul
mul-HasWidth a b p q same = (cut_within a.width (a.number * b.number) p.some_bit p.no_wider, refl)

pub sll-HasWidth : KeepsCommonWidth sll
unfolding sll
sll-HasWidth a b p q same = (cut_within a.width (a.number * 2 ^ b.number) p.some_bit p.no_wider, refl)

pub srl-HasWidth : KeepsCommonWidth srl
unfolding srl
srl-HasWidth a b p q same = (lower_within a.width a.number (a.number / 2 ^ b.number) p (div-le_self a.number (2 ^ b.number)), refl)

pub flag-HasWidth : (holds : Bool) → HasWidth (flag holds) 1
unfolding flag
flag-HasWidth false = (record { some_bit = lit≤ tt; no_wider = lit≤ tt; in_range = lit< tt }, refl)
flag-HasWidth true = (record { some_bit = lit≤ tt; no_wider = lit≤ tt; in_range = lit< tt }, refl)

pub redand-HasWidth : MakesOneBit redand
unfolding redand
redand-HasWidth a p = flag-HasWidth _

pub redor-HasWidth : MakesOneBit redor
unfolding redor
redor-HasWidth a p = flag-HasWidth _

pub redxor-HasWidth : MakesOneBit redxor
unfolding redxor
redxor-HasWidth a p = (cut_within 1 (count_ones a.number) (lit≤ tt) (lit≤ tt), refl)

pub eq_bits-HasWidth : ComparesToOneBit eq_bits
unfolding eq_bits
eq_bits-HasWidth a b p q same = flag-HasWidth _

pub ult-HasWidth : ComparesToOneBit ult
unfolding ult
ult-HasWidth a b p q same = flag-HasWidth _

pub ulte-HasWidth : ComparesToOneBit ulte
unfolding ulte
ulte-HasWidth a b p q same = flag-HasWidth _

pub slt-HasWidth : ComparesToOneBit slt
unfolding slt
slt-HasWidth a b p q same = flag-HasWidth _

pub slte-HasWidth : ComparesToOneBit slte
unfolding slte
slte-HasWidth a b p q same = flag-HasWidth _

residue_within : (z : ℤ) (w : ℕ) → 1 ≤ w → w ≤ 128 → IsBitVector w (residue z w)
unfolding residue
residue_within (pos n) w some most = cut_within w n some most
residue_within (negsuc n) w some most = complement_within w (n % 2 ^ w) some most

pub sra-HasWidth : KeepsCommonWidth sra
unfolding sra
sra-HasWidth a b p q same = (residue_within _ a.width p.some_bit p.no_wider, refl)

pub zext-HasWidth : Extends zext
unfolding zext
zext-HasWidth a width p wider most = (within_wider a.width width a.number p wider most, refl)

pub sext-HasWidth : Extends sext
unfolding sext
sext-HasWidth a width p wider most =
    let some : 1 ≤ width = omega arith in
    (residue_within (signed a) width some most, refl)

pub concat-HasWidth : Joins
unfolding concat
concat-HasWidth a b p q within = (joined_within a.width b.width a.number b.number p q within, refl)

pub slice-HasWidth : Slices
unfolding slice
slice-HasWidth a upper lower p order within =
    (cut_within (upper - lower + 1) (a.number / 2 ^ lower) (omega arith) (omega arith), refl)

few_bits : {w : ℕ} → w ≤ 12 → w < 16
few_bits most = omega arith

pub host-HasWidth : HostAnswers
unfolding value answer out_width arity
host-HasWidth Popcount x p few = (count_ones_within x.width x.number (few_bits few.no_wider) p.in_range, refl)
host-HasWidth Parity x p few = (cut_within 1 (count_ones x.number) (lit≤ tt) (lit≤ tt), refl)
host-HasWidth Reverse x p few =
    (record { some_bit = p.some_bit; no_wider = p.no_wider; in_range = number_of_bits-lt x.width _ (λ i. bit_at-lt x.number (x.width - 1 - i)) }, refl)
host-HasWidth LeadingZeros x p few = (leading_zeros_within x.width x.number (few_bits few.no_wider), refl)
host-HasWidth Gray x p few =
    (xor_within x.width x.number (x.number / 2) p (lower_within x.width x.number (x.number / 2) p (div-le_self x.number 2)), refl)
host-HasWidth Hamming x p few = (hamming_within x.width x.number few.no_wider few.equal_parts p.in_range, refl)
host-HasWidth Morton x p few =
    (record { some_bit = p.some_bit; no_wider = p.no_wider; in_range = number_of_bits-lt x.width _ (interleaved_bit-lt _ _) }, refl)
host-HasWidth SatAdd x p few = (sat_add_within x.width _ (two_bits few.some_bit few.equal_parts) few.no_wider, refl)

-- ---- how they undo one another

-- equal widths and equal numbers make equal bit vectors
same_bits : (a b : BitVector) → a.width ≡ b.width → a.number ≡ b.number → a ≡ b
same_bits a b e f = ap₂ (λ w n. record { width = w; number = n }) e f

-- the low bits of c are a, where they leave a's number
low_slice : (c a : BitVector) → IsBits a → c.number % 2 ^ a.width ≡ a.number → slice c (a.width - 1) 0 ≡ a
unfolding slice
low_slice c a p left =
    let some = p.some_bit in
    let width : a.width - 1 - 0 + 1 ≡ a.width = omega arith in
    same_bits _ a width (ap₂ (λ n w. n % 2 ^ w) (div-one c.number) width ∙ left)

pub slice-whole : WholeSlice
slice-whole a p = low_slice a a p (mod-eq_of_lt p.in_range)

slice-concat_high : (a b : BitVector) → IsBits a → IsBits b → slice (concat a b) (a.width + b.width - 1) b.width ≡ a
unfolding slice concat
slice-concat_high a b p q =
    let some = p.some_bit in
    let width : a.width + b.width - 1 - b.width + 1 ≡ a.width = omega arith in
    same_bits _ a width
    (ap₂ (λ n w. n % 2 ^ w) (shr_high a.number b.width b.number q.in_range) width ∙ mod-eq_of_lt p.in_range)

slice-concat_low : (a b : BitVector) → IsBits b → slice (concat a b) (b.width - 1) 0 ≡ b
unfolding concat
slice-concat_low a b q = low_slice (concat a b) b q (mod_low a.number b.width b.number q.in_range)

pub slice-concat : SliceUndoesConcat
slice-concat a b p q = (slice-concat_high a b p q, slice-concat_low a b q)

-- a field is its high part and its low part
field_of_parts : (n high low lower : ℕ) → n / 2 ^ (lower + low) % 2 ^ high * 2 ^ low + n / 2 ^ lower % 2 ^ low ≡ n / 2 ^ lower % 2 ^ (high + low)
field_of_parts n high low lower =
    ap (λ x. x % 2 ^ high * 2 ^ low + n / 2 ^ lower % 2 ^ low) (sym (shr-shr n lower low)) ∙ sym (mod-pow-add (n / 2 ^ lower) high low)

pub concat-slice : ConcatUndoesSlice
unfolding slice concat
concat-slice a upper middle lower ordered higher =
    let high : ℕ = upper - (middle + 1) + 1 in
    let low : ℕ = middle - lower + 1 in
    let place : middle + 1 ≡ lower + low = omega arith in
    let width : high + low ≡ upper - lower + 1 = omega arith in
    same_bits _ _ width
    (ap (λ k. a.number / 2 ^ k % 2 ^ high * 2 ^ low + a.number / 2 ^ lower % 2 ^ low) place ∙ field_of_parts a.number high low lower
    ∙ ap (λ w. a.number / 2 ^ lower % 2 ^ w) width)

pub slice-zext : SliceUndoes zext
unfolding zext
slice-zext a width p wider = low_slice (zext a width) a p (mod-eq_of_lt p.in_range)

-- the complement of a complement at a greater width has the number below
complement_twice : (n w v : ℕ) → n < 2 ^ w → w ≤ v → (2 ^ v - 1 - (2 ^ w - 1 - n)) % 2 ^ w ≡ n
complement_twice n w v h wider =
    let below : 2 ^ w - 1 - n < 2 ^ w = omega arith in
    let e : v - w + w ≡ v = omega arith in
    let cut = not_mod {a = 2 ^ w - 1 - n} (v - w) w below in
    let back : 2 ^ w - 1 - (2 ^ w - 1 - n) ≡ n = omega arith in
    subst (λ (x : ℕ). (2 ^ x - 1 - (2 ^ w - 1 - n)) % 2 ^ w ≡ 2 ^ w - 1 - (2 ^ w - 1 - n)) e cut ∙ back

slice-sext_high : (a : BitVector) (width : ℕ) → IsBits a → a.width ≤ width → slice (not (zext (not a) width)) (a.width - 1) 0 ≡ a
unfolding not zext
slice-sext_high a width p wider =
    low_slice (not (zext (not a) width)) a p (complement_twice a.number a.width width p.in_range wider)

pub slice-sext : SliceUndoes sext
slice-sext a width p wider =
    elim (cases_lt a.number (2 ^ (a.width - 1))) [
      | inl low ↦ ap (λ c. slice c (a.width - 1) 0) (sext-low a width p.in_range wider low) ∙ slice-zext a width p wider
      | inr high ↦ ap (λ c. slice c (a.width - 1) 0) (sext-high a width p.in_range wider high) ∙ slice-sext_high a width p wider
    ]

sum_less_part : (a b m : ℕ) → 0 < m → a < m → b < m → ((a + b) % m + (m - b)) % m ≡ a
sum_less_part a b m positive p q =
    let sum : a + b + (m - b) ≡ a + m = omega arith in
    mod-add-mod (a + b) m (m - b) ∙ ap (λ n. n % m) sum ∙ add-mod_right a m ∙ mod-eq_of_lt p

pub sub-add : SubUndoesAdd
unfolding sub add
sub-add a b p q same =
    same_bits _ a refl
    (sum_less_part a.number b.number (2 ^ a.width) (pow_pos a.width) p.in_range (subst (λ (w : ℕ). b.number < 2 ^ w) (sym same) q.in_range))

half_grows : (w v : ℕ) → w ≤ v → 2 ^ (w - 1) ≤ 2 ^ (v - 1)
half_grows w v wider = pow-le-pow_right (lit< tt) (omega arith)

two_halves : (w : ℕ) → 1 ≤ w → 2 ^ w ≡ 2 ^ (w - 1) * 2
two_halves w some =
    let e : suc (w - 1) ≡ w = omega arith in
    ap (λ k. 2 ^ k) (sym e) ∙ pow-suc 2 (w - 1)

signed-zext_low : (a : BitVector) (width : ℕ) → a.width ≤ width → a.number < 2 ^ (a.width - 1) → signed (zext a width) ≡ signed a
unfolding zext
signed-zext_low a width wider low =
    let grows = half_grows a.width width wider in
    let still : a.number < 2 ^ (width - 1) = omega arith in
    signed-low (zext a width) still ∙ sym (signed-low a low)

signed-not_zext_not : (a : BitVector) (width : ℕ) → IsBits a → a.width ≤ width → 2 ^ (a.width - 1) ≤ a.number → signed (not (zext (not a) width)) ≡ signed a
unfolding not zext
signed-not_zext_not a width p wider high =
    let n : ℕ = 2 ^ a.width - 1 - a.number in
    let some = p.some_bit in
    let whole : 2 ^ a.width ≡ 2 ^ (a.width - 1) * 2 = two_halves a.width some in
    let whole_wider : 2 ^ width ≡ 2 ^ (width - 1) * 2 = two_halves width (omega arith) in
    let grows = half_grows a.width width wider in
    let below_half : n < 2 ^ (width - 1) = omega arith in
    let in_range : 2 ^ width - 1 - n < 2 ^ width = omega arith in
    let still : 2 ^ (width - 1) ≤ 2 ^ width - 1 - n = omega arith in
    let back : 2 ^ width - 1 - (2 ^ width - 1 - n) ≡ n = omega arith in
    signed-high (not (zext (not a) width)) in_range still ∙ ap negsuc back ∙ sym (signed-high a p.in_range high)

pub signed-sext : SextKeepsSigned
signed-sext a width p wider =
    elim (cases_lt a.number (2 ^ (a.width - 1))) [
      | inl low ↦ ap signed (sext-low a width p.in_range wider low) ∙ signed-zext_low a width wider low
      | inr high ↦ ap signed (sext-high a width p.in_range wider high) ∙ signed-not_zext_not a width p wider high
    ]

-- ---- one bit

one_bit_number : (n : ℕ) → n < 2 → n ≡ cond (eqb n 1) 1 0
one_bit_number n h = grind (arith, nat_tests)

pub one_bit-flag : OneBitIsFlag
unfolding flag
one_bit-flag a p one =
    same_bits a _ one (one_bit_number a.number (subst (λ (w : ℕ). a.number < 2 ^ w) one p.in_range))

pub flag_logic : FlagLogic
unfolding flag not and or
flag_logic false false = (refl, refl, refl)
flag_logic false true = (refl, refl, refl)
flag_logic true false = (refl, refl, refl)
flag_logic true true = (refl, refl, refl)

-- ---- the host functions

pub reverse-turns : ReverseTurnsBits
unfolding answer
reverse-turns w x i h = bit_at-number_of_bits w _ i (λ k. bit_at-lt x (w - 1 - k)) h

pub leading_zeros-digits : LeadingZerosAndDigits
unfolding answer
leading_zeros-digits w x digits h below half =
    let top = leading_length w x h in
    let same : digits ≡ top.0 = same_digits x digits top.0 below half top.2 top.3 in
    ap (λ d. count_leading_zeros w x + d) same ∙ top.1
