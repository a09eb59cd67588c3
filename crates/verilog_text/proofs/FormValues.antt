-- What expressions of Verilog make of bit vectors, where a circuit has another operator.
use Rattle.std.proofs.Common.{◌≡◌, ℕ, zero, suc, ◌+◌, ◌-◌, ◌*◌, ◌/◌, ◌%◌, ◌^◌, ◌<◌, ◌≤◌, Bool, true, false, cond, min, eqb, nat_eq, inl, inr, arith, refl, sym, ap, ap₂, subst, ◌∙◌}
use Rattle.std.proofs.lemmas.Bool.{cases_lt}
use Rattle.std.proofs.Common.{pos}
use Rattle.std.specs.Int.{int_div_euclid}
use Rattle.kw_bits.specs.BitVector.{BitVector, IsBits, zero_at}
use Rattle.kw_bits.specs.Operators as op
use Rattle.kw_bits.proofs.OperatorLaws.{one_bit-flag, slice-whole}
use Rattle.kw_bits.proofs.Words.{shifted_down_out, shifted_out}
use Rattle.net_graph.specs.Operators.{ite_value, uext_value}
use Rattle.verilog_text.specs.Runs.{chosen}
use Rattle.verilog_text.specs.inner.Making.{least}
use Rattle.verilog_text.proofs.SignBits.{same_bits}

-- ---- extensions and slices

-- zeros above a bit vector
pub joined-zeros : (a : BitVector) (added : ℕ) → op.concat (zero_at added) a ≡ uext_value a added
unfolding op.concat op.zext uext_value
joined-zeros a added =
    same_bits (added + a.width) (a.width + added) (0 * 2 ^ a.width + a.number) a.number (omega arith) (omega arith)

-- no bit more
pub uext-none : (a : BitVector) → uext_value a 0 ≡ a
unfolding op.zext uext_value
uext-none a = same_bits (a.width + 0) a.width a.number a.number (omega arith) refl

-- all bits
pub slice-all : (a : BitVector) (upper lower : ℕ) → IsBits a → lower ≤ upper → upper < a.width
    → upper - lower + 1 ≡ a.width → op.slice a upper lower ≡ a
slice-all a upper lower bits order within all =
    let low : lower ≡ 0 = omega (arith, order, within, all) in
    let high : upper ≡ a.width - 1 = omega (arith, order, within, all) in
    ap₂ (λ (u : ℕ) (l : ℕ). op.slice a u l) high low ∙ slice-whole a bits

-- ---- amounts

-- an amount that is above its width, as the width
abbrev pub clipped : BitVector → BitVector
clipped b = record { width = b.width; number = least b }

least-small : (b : BitVector) → b.number ≤ b.width → least b ≡ b.number
least-small b small = omega (arith, small)

least-great : (b : BitVector) → b.width ≤ b.number → least b ≡ b.width
least-great b great = omega (arith, great)

sll-number : (n w v m : ℕ) → w ≡ v → n * 2 ^ min m v % 2 ^ w ≡ n * 2 ^ m % 2 ^ w
sll-number n w v m same =
    elim (cases_lt v m) [
      | inl over ↦
          let least : min m v ≡ v = omega (arith, over) in
          let most : w ≤ v = omega (arith, same) in
          let out : w ≤ m = omega (arith, same, over) in
          ap (λ k. n * 2 ^ k % 2 ^ w) least ∙ shifted_out n v w most ∙ sym (shifted_out n m w out)
      | inr within ↦ let least : min m v ≡ m = omega (arith, within) in ap (λ k. n * 2 ^ k % 2 ^ w) least
    ]

srl-number : (n w v m : ℕ) → w ≡ v → n < 2 ^ w → n / 2 ^ min m v ≡ n / 2 ^ m
srl-number n w v m same below =
    elim (cases_lt v m) [
      | inl over ↦
          let least : min m v ≡ v = omega (arith, over) in
          let most : w ≤ v = omega (arith, same) in
          let out : w ≤ m = omega (arith, same, over) in
          ap (λ k. n / 2 ^ k) least ∙ shifted_down_out n v w below most ∙ sym (shifted_down_out n m w below out)
      | inr within ↦ let least : min m v ≡ m = omega (arith, within) in ap (λ k. n / 2 ^ k) least
    ]

pub sll-clipped : (a b : BitVector) → a.width ≡ b.width → op.sll a (clipped b) ≡ op.sll a b
unfolding op.sll
sll-clipped a b same =
    ap (λ (n : ℕ). let c : BitVector = record { width = a.width; number = n } in
    c) (sll-number a.number a.width b.width b.number same)

pub srl-clipped : (a b : BitVector) → IsBits a → a.width ≡ b.width → op.srl a (clipped b) ≡ op.srl a b
unfolding op.srl
srl-clipped a b bits same =
    ap (λ (n : ℕ). let c : BitVector = record { width = a.width; number = n } in
    c) (srl-number a.number a.width b.width b.number same bits.in_range)

pub sra-clipped : (a b : BitVector) → a.width ≡ b.width → op.sra a (clipped b) ≡ op.sra a b
unfolding op.sra
sra-clipped a b same =
    let twice : min (min b.number b.width) a.width ≡ min b.number a.width = omega (arith, same) in
    ap (λ (k : ℕ). let c : BitVector =
    record { width = a.width; number = op.residue (int_div_euclid (op.signed a) (pos (2 ^ k))) a.width } in c) twice

-- an amount that is clipped is one of its width
pub clipped-IsBits : (b : BitVector) → IsBits b → IsBits (clipped b)
clipped-IsBits b bits =
    let range = bits.in_range in
    record { some_bit = bits.some_bit; no_wider = bits.no_wider; in_range = omega (arith, range) }

-- ---- one bit

flags-imply : (x y : Bool) → op.ulte (op.flag x) (op.flag y) ≡ op.or (op.not (op.flag x)) (op.flag y)
unfolding op.ulte op.flag op.or op.not
flags-imply true true = refl
flags-imply true false = refl
flags-imply false true = refl
flags-imply false false = refl

-- on one bit an implication is an order
pub implied : (a b : BitVector) → IsBits a → IsBits b → a.width ≡ 1 → b.width ≡ 1 → op.ulte a b ≡ op.or (op.not a) b
implied a b p q one other =
    let first = one_bit-flag a p one in
    let second = one_bit-flag b q other in
    ap₂ op.ulte first second ∙ flags-imply (nat_eq a.number 1) (nat_eq b.number 1)
    ∙ sym (ap₂ (λ (x : BitVector) (y : BitVector). op.or (op.not x) y) first second)

-- a condition of one bit is 1 where it isn't 0
pub chosen-ite : (condition a b : BitVector) → IsBits condition → condition.width ≡ 1
    → chosen condition a b ≡ ite_value condition a b
unfolding chosen ite_value
chosen-ite condition a b bits one =
    let below : condition.number < 2 ^ 1 = subst (λ w. condition.number < 2 ^ w) one bits.in_range in
    by condition.number below
  where
    by : (n : ℕ) → n < 2 ^ 1 → cond (eqb n 0) b a ≡ cond (eqb n 1) a b
    by zero below = refl
    by (suc zero) below = refl
    by (suc (suc n)) below = absurd (omega (arith, below))
