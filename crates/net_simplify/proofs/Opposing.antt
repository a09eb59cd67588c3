-- Comparisons that tell what others don't, and what operators come to on a value and the same with its bits turned.
use Rattle.std.proofs.Common.{◌≡◌, ℕ, ◌+◌, ◌-◌, ◌^◌, ◌<◌, Bool, true, false, bit_and, bit_or, bit_xor, refl, sym, ap, ◌∙◌, arith}
use Rattle.std.specs.Prelude.{int_le, int_lt, nat_eq, nat_le, nat_lt, not}
use Rattle.std.specs.Int.Bits.{and_self, xor_disjoint}
use Rattle.std.proofs.lemmas.Nat.{and-not, and_comm, or_disjoint}
use Rattle.kw_bits.specs.BitVector.{BitVector, zero_at}
use Rattle.kw_bits.specs.Operators as op
use Rattle.kw_bits.proofs.OperatorLaws.{flag_logic}
use Rattle.net_graph.specs.Operators.{two_value, two_width, TakesTwo}
use Rattle.net_graph.specs.declared.node.NetTwo.TheVariants.{And, Or, Xor, EqBits, Neq, Ult, Ulte, Ugt, Ugte, Slt, Slte, Sgt, Sgte}
use Rattle.net_simplify.specs.inner.Forms.{IsOfOpposites, IsOpposite}
use Rattle.net_simplify.proofs.Comparing.{int_le-not, nat_le-not}
use Rattle.net_simplify.proofs.Units.{same_parts}

turned-flag : (p q : Bool) → p ≡ not q → op.flag p ≡ op.not (op.flag q)
turned-flag p q e = ap op.flag e ∙ sym (flag_logic q false).0

back : (p q : Bool) → p ≡ not q → q ≡ not p
back p true e = sym (ap not e)
back p false e = sym (ap not e)

pub eq-neq : IsOpposite EqBits Neq
unfolding two_value two_width TakesTwo
eq-neq = record { takes = λ a b h. h; width = λ a b. refl; value = λ x y p q t. refl; other_needs = tt }

pub neq-eq : IsOpposite Neq EqBits
unfolding two_value two_width TakesTwo op.eq_bits
neq-eq = record {
  takes = λ a b h. h;
  width = λ a b. refl;
  value = λ x y p q t. turned-flag (nat_eq x.number y.number) (not (nat_eq x.number y.number)) (twice (nat_eq x.number y.number)) ∙ ap op.not (sym (flag_logic (nat_eq x.number y.number) false).0);
  other_needs = tt;
}
  where
    twice : (b : Bool) → b ≡ not (not b)
    twice true = refl
    twice false = refl

pub ult-ugte : IsOpposite Ult Ugte
unfolding two_value two_width TakesTwo op.ult op.ulte
ult-ugte = record { takes = λ a b h. h; width = λ a b. refl; value = λ x y p q t. turned-flag (nat_le y.number x.number) (nat_lt x.number y.number) (nat_le-not x.number y.number); other_needs = tt }

pub ulte-ugt : IsOpposite Ulte Ugt
unfolding two_value two_width TakesTwo op.ult op.ulte
ulte-ugt = record { takes = λ a b h. h; width = λ a b. refl; value = λ x y p q t. turned-flag (nat_lt y.number x.number) (nat_le x.number y.number) (back (nat_le x.number y.number) (nat_lt y.number x.number) (nat_le-not y.number x.number)); other_needs = tt }

pub ugt-ulte : IsOpposite Ugt Ulte
unfolding two_value two_width TakesTwo op.ult op.ulte
ugt-ulte = record { takes = λ a b h. h; width = λ a b. refl; value = λ x y p q t. turned-flag (nat_le x.number y.number) (nat_lt y.number x.number) (nat_le-not y.number x.number); other_needs = tt }

pub ugte-ult : IsOpposite Ugte Ult
unfolding two_value two_width TakesTwo op.ult op.ulte
ugte-ult = record { takes = λ a b h. h; width = λ a b. refl; value = λ x y p q t. turned-flag (nat_lt x.number y.number) (nat_le y.number x.number) (back (nat_le y.number x.number) (nat_lt x.number y.number) (nat_le-not x.number y.number)); other_needs = tt }

pub slt-sgte : IsOpposite Slt Sgte
unfolding two_value two_width TakesTwo op.slt op.slte
slt-sgte = record { takes = λ a b h. h; width = λ a b. refl; value = λ x y p q t. turned-flag (int_le (op.signed y) (op.signed x)) (int_lt (op.signed x) (op.signed y)) (int_le-not (op.signed x) (op.signed y)); other_needs = tt }

pub slte-sgt : IsOpposite Slte Sgt
unfolding two_value two_width TakesTwo op.slt op.slte
slte-sgt = record { takes = λ a b h. h; width = λ a b. refl; value = λ x y p q t. turned-flag (int_lt (op.signed y) (op.signed x)) (int_le (op.signed x) (op.signed y)) (back (int_le (op.signed x) (op.signed y)) (int_lt (op.signed y) (op.signed x)) (int_le-not (op.signed y) (op.signed x))); other_needs = tt }

pub sgt-slte : IsOpposite Sgt Slte
unfolding two_value two_width TakesTwo op.slt op.slte
sgt-slte = record { takes = λ a b h. h; width = λ a b. refl; value = λ x y p q t. turned-flag (int_le (op.signed x) (op.signed y)) (int_lt (op.signed y) (op.signed x)) (int_le-not (op.signed y) (op.signed x)); other_needs = tt }

pub sgte-slt : IsOpposite Sgte Slt
unfolding two_value two_width TakesTwo op.slt op.slte
sgte-slt = record { takes = λ a b h. h; width = λ a b. refl; value = λ x y p q t. turned-flag (int_lt (op.signed x) (op.signed y)) (int_le (op.signed y) (op.signed x)) (back (int_le (op.signed y) (op.signed x)) (int_lt (op.signed x) (op.signed y)) (int_le-not (op.signed x) (op.signed y))); other_needs = tt }

-- ---- a value and the turned one

pub nothing_common : (w n : ℕ) → n < 2 ^ w → bit_and n (2 ^ w - 1 - n) ≡ 0
nothing_common w n h =
    let both = and-not w n n h h in
    and_comm n (2 ^ w - 1 - n) ∙ omega (arith, both, and_self n)

whole : (w n : ℕ) → n < 2 ^ w → n + (2 ^ w - 1 - n) ≡ 2 ^ w - 1 - 0
whole w n h = omega arith

module _ (width : ℕ) (result : BitVector) where
  pub and-opposite : result ≡ zero_at width → IsOfOpposites And width result
  unfolding two_value two_width TakesTwo op.and op.not
  and-opposite e = record {
    as_wide = λ b takes. ap (λ (v : BitVector). v.width) e;
    value = λ x p w. same_parts (zero_at width) x.width (bit_and x.number (2 ^ x.width - 1 - x.number)) w (nothing_common x.width x.number p.in_range) ∙ sym e;
  }

  pub or-opposite : (zero : BitVector) → result ≡ op.not zero → zero ≡ zero_at width → IsOfOpposites Or width result
  unfolding two_value two_width TakesTwo op.or op.not
  or-opposite zero e z = record {
    as_wide = λ b takes. ap (λ (v : BitVector). v.width) (e ∙ ap op.not z);
    value = λ x p w.
        let below : x.number < 2 ^ x.width = p.in_range in
        same_parts (op.not (zero_at width)) x.width (bit_or x.number (2 ^ x.width - 1 - x.number)) w
        (or_disjoint x.number (2 ^ x.width - 1 - x.number) (nothing_common x.width x.number p.in_range) ∙ whole x.width x.number below ∙ ap (λ k. 2 ^ k - 1 - 0) w) ∙ sym (e ∙ ap op.not z);
  }

  pub xor-opposite : (zero : BitVector) → result ≡ op.not zero → zero ≡ zero_at width → IsOfOpposites Xor width result
  unfolding two_value two_width TakesTwo op.xor op.not
  xor-opposite zero e z = record {
    as_wide = λ b takes. ap (λ (v : BitVector). v.width) (e ∙ ap op.not z);
    value = λ x p w.
        let below : x.number < 2 ^ x.width = p.in_range in
        same_parts (op.not (zero_at width)) x.width (bit_xor x.number (2 ^ x.width - 1 - x.number)) w
        (xor_disjoint x.number (2 ^ x.width - 1 - x.number) (nothing_common x.width x.number p.in_range) ∙ whole x.width x.number below ∙ ap (λ k. 2 ^ k - 1 - 0) w) ∙ sym (e ∙ ap op.not z);
  }
