-- A comparison whose answer is turned is the contrary one.
use Rattle.std.proofs.Common.{◌≡◌, ℕ, ℤ, pos, negsuc, true, arith, refl, ap, ◌∙◌}
use Rattle.std.proofs.lemmas.Bool.Decides.{nat_tests}
use Rattle.std.specs.Prelude.{not, nat_le, nat_lt, int_lt, int_le}
use Rattle.kw_bits.specs.BitVector.{BitVector}
use Rattle.kw_bits.specs.Operators as op
use Rattle.kw_bits.proofs.OperatorLaws.{flag_logic}

nat-contrary : (m n : ℕ) → not (nat_le m n) ≡ nat_lt n m
nat-contrary m n = grind (arith, nat_tests)

nat-contrary-lt : (m n : ℕ) → not (nat_lt m n) ≡ nat_le n m
nat-contrary-lt m n = grind (arith, nat_tests)

int-contrary : (x y : ℤ) → not (int_le x y) ≡ int_lt y x
int-contrary (pos m) (pos n) = nat-contrary m n
int-contrary (pos m) (negsuc n) = refl
int-contrary (negsuc m) (pos n) = refl
int-contrary (negsuc m) (negsuc n) = nat-contrary n m

int-contrary-lt : (x y : ℤ) → not (int_lt x y) ≡ int_le y x
int-contrary-lt (pos m) (pos n) = nat-contrary-lt m n
int-contrary-lt (pos m) (negsuc n) = refl
int-contrary-lt (negsuc m) (pos n) = refl
int-contrary-lt (negsuc m) (negsuc n) = nat-contrary-lt n m

pub not-ulte : (a b : BitVector) → op.not (op.ulte a b) ≡ op.ult b a
unfolding op.ulte op.ult
not-ulte a b = (flag_logic (nat_le a.number b.number) true).0 ∙ ap op.flag (nat-contrary a.number b.number)

pub not-ult : (a b : BitVector) → op.not (op.ult a b) ≡ op.ulte b a
unfolding op.ulte op.ult
not-ult a b = (flag_logic (nat_lt a.number b.number) true).0 ∙ ap op.flag (nat-contrary-lt a.number b.number)

pub not-slte : (a b : BitVector) → op.not (op.slte a b) ≡ op.slt b a
unfolding op.slte op.slt
not-slte a b = (flag_logic (int_le (op.signed a) (op.signed b)) true).0 ∙ ap op.flag (int-contrary (op.signed a) (op.signed b))

pub not-slt : (a b : BitVector) → op.not (op.slt a b) ≡ op.slte b a
unfolding op.slte op.slt
not-slt a b = (flag_logic (int_lt (op.signed a) (op.signed b)) true).0 ∙ ap op.flag (int-contrary-lt (op.signed a) (op.signed b))

pub ruleset contraries = (not-ulte, not-ult, not-slte, not-slt)
