-- What comparisons come to where operands are equal, or one is never below the other.
use Rattle.std.proofs.Common.{◌≡◌, ℕ, Bool, true, false, ℤ, pos, negsuc, refl, sym, ap, subst, ◌∙◌, arith}
use Rattle.std.specs.Prelude.{int_le, int_lt, nat_eq, nat_le, nat_lt, not}
use Rattle.std.proofs.lemmas.Bool.{eq-eqb}
use Rattle.std.proofs.lemmas.Bool.Decides.{nat_tests}
use Rattle.kw_bits.specs.BitVector.{BitVector}
use Rattle.kw_bits.specs.Operators as op
use Rattle.net_graph.specs.Operators.{two_value, two_width, TakesTwo}
use Rattle.net_graph.specs.declared.node.NetTwo.{NetTwo}
use Rattle.net_graph.specs.declared.node.NetTwo.TheVariants.{EqBits, Neq, Ult, Ulte, Ugt, Ugte, Slt, Slte, Sgt, Sgte}
use Rattle.net_simplify.specs.inner.Identities.{Agree, HoldsOf, IsNeverBelow, ones, zeros}
use Rattle.net_simplify.specs.declared.known.Known.{Known}
use Rattle.net_simplify.specs.declared.identities.Identity.{Identity}
use Rattle.net_simplify.specs.declared.identities.Identity.TheVariants.{False, True}

-- ---- tests of numbers

-- one number is at most another where that one isn't below it
pub nat_le-not : (a b : ℕ) → nat_le b a ≡ not (nat_lt a b)
nat_le-not a b = grind (arith, nat_tests)

pub int_le-not : (a b : ℤ) → int_le b a ≡ not (int_lt a b)
int_le-not (pos a) (pos b) = nat_le-not a b
int_le-not (pos a) (negsuc b) = refl
int_le-not (negsuc a) (pos b) = refl
int_le-not (negsuc a) (negsuc b) = nat_le-not b a

int_lt-self : (z : ℤ) → int_lt z z ≡ false
int_lt-self (pos a) = grind (arith, nat_tests)
int_lt-self (negsuc a) = grind (arith, nat_tests)

-- ---- flags

flag-true : (holds : Bool) → holds ≡ true → op.flag holds ≡ ones 1
unfolding op.flag
flag-true holds h = ap op.flag h

flag-false : (holds : Bool) → holds ≡ false → op.flag holds ≡ zeros 1
unfolding op.flag
flag-false holds h = ap op.flag h

not-flag-true : (holds : Bool) → holds ≡ true → op.not (op.flag holds) ≡ zeros 1
unfolding op.flag op.not
not-flag-true holds h = ap (λ b. op.not (op.flag b)) h

-- an operator that is another comes to the same
pub at_operator : (a b : Known) (same : Bool) (operator other : NetTwo) (identity : Identity) → operator ≡ other → HoldsOf other a b same identity → HoldsOf operator a b same identity
at_operator a b same operator other identity e h = subst (λ (o : NetTwo). HoldsOf o a b same identity) (sym e) h

module _ (a b : Known) (same : Bool) where
  pub eq-same : same ≡ true → HoldsOf EqBits a b same True
  unfolding two_value two_width op.eq_bits
  eq-same e x y takes agree = flag-true (nat_eq x.number y.number) (eq-eqb x.number y.number (ap (λ (z : BitVector). z.number) (agree.equal e)))

  pub neq-same : same ≡ true → HoldsOf Neq a b same False
  unfolding two_value two_width op.eq_bits
  neq-same e x y takes agree = not-flag-true (nat_eq x.number y.number) (eq-eqb x.number y.number (ap (λ (z : BitVector). z.number) (agree.equal e)))

  pub ult-never : IsNeverBelow a b same → HoldsOf Ult a b same False
  unfolding two_value two_width op.ult TakesTwo
  ult-never h x y takes agree = flag-false (nat_lt x.number y.number) (h x y takes agree)

  pub ugte-never : IsNeverBelow a b same → HoldsOf Ugte a b same True
  unfolding two_value two_width op.ulte TakesTwo
  ugte-never h x y takes agree = flag-true (nat_le y.number x.number) (nat_le-not x.number y.number ∙ ap not (h x y takes agree))

  turned : (x y : BitVector) → Agree a b same x y → Agree b a same y x
  turned x y agree = record { first = agree.second; second = agree.first; first_known = agree.second_known; second_known = agree.first_known; equal = λ e. sym (agree.equal e) }

  pub ugt-never : IsNeverBelow b a same → HoldsOf Ugt a b same False
  unfolding two_value two_width op.ult TakesTwo
  ugt-never h x y takes agree = flag-false (nat_lt y.number x.number) (h y x (sym takes) (turned x y agree))

  pub ulte-never : IsNeverBelow b a same → HoldsOf Ulte a b same True
  unfolding two_value two_width op.ulte TakesTwo
  ulte-never h x y takes agree = flag-true (nat_le x.number y.number) (nat_le-not y.number x.number ∙ ap not (h y x (sym takes) (turned x y agree)))

  signed-same : (x y : BitVector) → x ≡ y → int_lt (op.signed x) (op.signed y) ≡ false
  signed-same x y equal = ap (λ z. int_lt (op.signed x) (op.signed z)) (sym equal) ∙ int_lt-self (op.signed x)

  pub slt-same : same ≡ true → HoldsOf Slt a b same False
  unfolding two_value two_width op.slt
  slt-same e x y takes agree = flag-false (int_lt (op.signed x) (op.signed y)) (signed-same x y (agree.equal e))

  pub sgt-same : same ≡ true → HoldsOf Sgt a b same False
  unfolding two_value two_width op.slt
  sgt-same e x y takes agree = flag-false (int_lt (op.signed y) (op.signed x)) (signed-same y x (sym (agree.equal e)))

  pub slte-same : same ≡ true → HoldsOf Slte a b same True
  unfolding two_value two_width op.slte
  slte-same e x y takes agree = flag-true (int_le (op.signed x) (op.signed y)) (int_le-not (op.signed y) (op.signed x) ∙ ap not (signed-same y x (sym (agree.equal e))))

  pub sgte-same : same ≡ true → HoldsOf Sgte a b same True
  unfolding two_value two_width op.slte
  sgte-same e x y takes agree = flag-true (int_le (op.signed y) (op.signed x)) (int_le-not (op.signed x) (op.signed y) ∙ ap not (signed-same x y (agree.equal e)))
