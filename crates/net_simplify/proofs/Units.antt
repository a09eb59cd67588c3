-- What operators come to where an operand is all zeros, all ones or 1, and where both operands are equal.
use Rattle.std.proofs.Common.{◌≡◌, ℕ, ◌+◌, ◌-◌, ◌*◌, ◌%◌, ◌^◌, ◌<◌, Bool, true, bit_and, bit_or, bit_xor, refl, sym, ap, subst, ◌∙◌, arith}
use Rattle.std.specs.Int.Bits.{and_self, and_zero_l, and_zero_r, or_self, or_zero_l, or_zero_r, xor_self, xor_zero_l, xor_zero_r, xor_add_and}
use Rattle.std.proofs.Math.Nat.{add-mul-mod_self_right, mod-eq_of_lt, mod_self}
use Rattle.std.proofs.lemmas.Nat.{and_comm, and_mask, le_or_l, le_or_r, or_lt, pow_pos, xor_comm}
use Rattle.kw_bits.specs.BitVector.{BitVector}
use Rattle.kw_bits.specs.Operators as op
use Rattle.net_graph.specs.Operators.{two_value, two_width, TakesTwo}
use Rattle.net_graph.specs.declared.node.NetTwo.TheVariants.{And, Or, Xor, Add, Sub, Mul}
use Rattle.net_simplify.specs.inner.Identities.{HoldsOf, IsKnown}
use Rattle.net_simplify.specs.declared.known.Known.{Known}
use Rattle.net_simplify.specs.declared.known.Known.TheVariants as known
use Rattle.net_simplify.specs.declared.identities.Identity.TheVariants.{First, Second, NotFirst, NotSecond, Zero}

-- ---- numbers

pub ones_and : (w n : ℕ) → n < 2 ^ w → bit_and n (2 ^ w - 1) ≡ n
ones_and w n h = and_mask n w ∙ mod-eq_of_lt h

pub ones_or : (w n : ℕ) → n < 2 ^ w → bit_or n (2 ^ w - 1) ≡ 2 ^ w - 1
ones_or w n h =
    let positive = pow_pos w in
    omega (arith, or_lt w n (2 ^ w - 1) h (omega arith), le_or_r n (2 ^ w - 1))

ones_xor : (w n : ℕ) → n < 2 ^ w → bit_xor n (2 ^ w - 1) ≡ 2 ^ w - 1 - n
ones_xor w n h =
    let positive = pow_pos w in
    omega (arith, xor_add_and n (2 ^ w - 1), ones_and w n h)

-- ---- bit vectors

-- a bit vector is that of its width and its number
pub same_parts : (x : BitVector) (width number : ℕ) → width ≡ x.width → number ≡ x.number → record { width = width; number = number } ≡ x
same_parts x width number w n i = record { width = w i; number = n i }

module _ (a b : Known) (same : Bool) where
  pub and-zero_first : a ≡ known.Zero → HoldsOf And a b same First
  unfolding two_value op.and
  and-zero_first e x y takes agree =
      let zero : x.number ≡ 0 = subst (λ k. IsKnown k x) e agree.first_known in
      same_parts x x.width (bit_and x.number y.number) refl (ap (λ n. bit_and n y.number) zero ∙ and_zero_l y.number ∙ sym zero)

  pub and-zero_second : b ≡ known.Zero → HoldsOf And a b same Second
  unfolding two_value op.and TakesTwo
  and-zero_second e x y takes agree =
      let zero : y.number ≡ 0 = subst (λ k. IsKnown k y) e agree.second_known in
      same_parts y x.width (bit_and x.number y.number) takes (ap (bit_and x.number) zero ∙ and_zero_r x.number ∙ sym zero)

  pub and-ones_first : a ≡ known.Ones → HoldsOf And a b same Second
  unfolding two_value op.and TakesTwo
  and-ones_first e x y takes agree =
      let ones : x.number ≡ 2 ^ x.width - 1 = subst (λ k. IsKnown k x) e agree.first_known in
      let within : y.number < 2 ^ x.width = subst (λ w. y.number < 2 ^ w) (sym takes) agree.second.in_range in
      same_parts y x.width (bit_and x.number y.number) takes (and_comm x.number y.number ∙ ap (bit_and y.number) ones ∙ ones_and x.width y.number within)

  pub and-ones_second : b ≡ known.Ones → HoldsOf And a b same First
  unfolding two_value op.and TakesTwo
  and-ones_second e x y takes agree =
      let ones : y.number ≡ 2 ^ x.width - 1 = subst (λ k. IsKnown k y) e agree.second_known ∙ ap (λ w. 2 ^ w - 1) (sym takes) in
      same_parts x x.width (bit_and x.number y.number) refl (ap (bit_and x.number) ones ∙ ones_and x.width x.number agree.first.in_range)

  pub and-same : same ≡ true → HoldsOf And a b same First
  unfolding two_value op.and
  and-same e x y takes agree =
      let equal : x ≡ y = agree.equal e in
      same_parts x x.width (bit_and x.number y.number) refl (ap (λ (z : BitVector). bit_and x.number z.number) (sym equal) ∙ and_self x.number)

  pub or-zero_first : a ≡ known.Zero → HoldsOf Or a b same Second
  unfolding two_value op.or TakesTwo
  or-zero_first e x y takes agree =
      let zero : x.number ≡ 0 = subst (λ k. IsKnown k x) e agree.first_known in
      same_parts y x.width (bit_or x.number y.number) takes (ap (λ n. bit_or n y.number) zero ∙ or_zero_l y.number)

  pub or-zero_second : b ≡ known.Zero → HoldsOf Or a b same First
  unfolding two_value op.or
  or-zero_second e x y takes agree =
      let zero : y.number ≡ 0 = subst (λ k. IsKnown k y) e agree.second_known in
      same_parts x x.width (bit_or x.number y.number) refl (ap (bit_or x.number) zero ∙ or_zero_r x.number)

  pub or-ones_first : a ≡ known.Ones → HoldsOf Or a b same First
  unfolding two_value op.or TakesTwo
  or-ones_first e x y takes agree =
      let ones : x.number ≡ 2 ^ x.width - 1 = subst (λ k. IsKnown k x) e agree.first_known in
      let within : y.number < 2 ^ x.width = subst (λ w. y.number < 2 ^ w) (sym takes) agree.second.in_range in
      let positive = pow_pos x.width in
      let below : x.number < 2 ^ x.width = agree.first.in_range in
      same_parts x x.width (bit_or x.number y.number) refl (omega (arith, or_lt x.width x.number y.number below within, le_or_l x.number y.number))

  pub or-ones_second : b ≡ known.Ones → HoldsOf Or a b same Second
  unfolding two_value op.or TakesTwo
  or-ones_second e x y takes agree =
      let ones : y.number ≡ 2 ^ x.width - 1 = subst (λ k. IsKnown k y) e agree.second_known ∙ ap (λ w. 2 ^ w - 1) (sym takes) in
      same_parts y x.width (bit_or x.number y.number) takes (ap (bit_or x.number) ones ∙ ones_or x.width x.number agree.first.in_range ∙ sym ones)

  pub or-same : same ≡ true → HoldsOf Or a b same First
  unfolding two_value op.or
  or-same e x y takes agree =
      let equal : x ≡ y = agree.equal e in
      same_parts x x.width (bit_or x.number y.number) refl (ap (λ (z : BitVector). bit_or x.number z.number) (sym equal) ∙ or_self x.number)

  pub xor-zero_first : a ≡ known.Zero → HoldsOf Xor a b same Second
  unfolding two_value op.xor TakesTwo
  xor-zero_first e x y takes agree =
      let zero : x.number ≡ 0 = subst (λ k. IsKnown k x) e agree.first_known in
      same_parts y x.width (bit_xor x.number y.number) takes (ap (λ n. bit_xor n y.number) zero ∙ xor_zero_l y.number)

  pub xor-zero_second : b ≡ known.Zero → HoldsOf Xor a b same First
  unfolding two_value op.xor
  xor-zero_second e x y takes agree =
      let zero : y.number ≡ 0 = subst (λ k. IsKnown k y) e agree.second_known in
      same_parts x x.width (bit_xor x.number y.number) refl (ap (bit_xor x.number) zero ∙ xor_zero_r x.number)

  pub xor-ones_first : a ≡ known.Ones → HoldsOf Xor a b same NotSecond
  unfolding two_value op.xor op.not TakesTwo
  xor-ones_first e x y takes agree =
      let ones : x.number ≡ 2 ^ y.width - 1 = subst (λ k. IsKnown k x) e agree.first_known ∙ ap (λ w. 2 ^ w - 1) takes in
      same_parts (op.not y) x.width (bit_xor x.number y.number) takes (xor_comm x.number y.number ∙ ap (bit_xor y.number) ones ∙ ones_xor y.width y.number agree.second.in_range)

  pub xor-ones_second : b ≡ known.Ones → HoldsOf Xor a b same NotFirst
  unfolding two_value op.xor op.not TakesTwo
  xor-ones_second e x y takes agree =
      let ones : y.number ≡ 2 ^ x.width - 1 = subst (λ k. IsKnown k y) e agree.second_known ∙ ap (λ w. 2 ^ w - 1) (sym takes) in
      same_parts (op.not x) x.width (bit_xor x.number y.number) refl (ap (bit_xor x.number) ones ∙ ones_xor x.width x.number agree.first.in_range)

  pub xor-same : same ≡ true → HoldsOf Xor a b same Zero
  unfolding two_value two_width op.xor
  xor-same e x y takes agree =
      let equal : x ≡ y = agree.equal e in
      same_parts (record { width = x.width; number = 0 }) x.width (bit_xor x.number y.number) refl (ap (λ (z : BitVector). bit_xor x.number z.number) (sym equal) ∙ xor_self x.number)

  pub add-zero_first : a ≡ known.Zero → HoldsOf Add a b same Second
  unfolding two_value op.add TakesTwo
  add-zero_first e x y takes agree =
      let zero : x.number ≡ 0 = subst (λ k. IsKnown k x) e agree.first_known in
      let within : y.number < 2 ^ x.width = subst (λ w. y.number < 2 ^ w) (sym takes) agree.second.in_range in
      same_parts y x.width ((x.number + y.number) % 2 ^ x.width) takes (ap (λ n. n % 2 ^ x.width) (omega arith) ∙ mod-eq_of_lt within)

  pub add-zero_second : b ≡ known.Zero → HoldsOf Add a b same First
  unfolding two_value op.add
  add-zero_second e x y takes agree =
      let zero : y.number ≡ 0 = subst (λ k. IsKnown k y) e agree.second_known in
      same_parts x x.width ((x.number + y.number) % 2 ^ x.width) refl (ap (λ n. n % 2 ^ x.width) (omega arith) ∙ mod-eq_of_lt agree.first.in_range)

  pub sub-zero : b ≡ known.Zero → HoldsOf Sub a b same First
  unfolding two_value op.sub
  sub-zero e x y takes agree =
      let zero : y.number ≡ 0 = subst (λ k. IsKnown k y) e agree.second_known in
      let whole : x.number + (2 ^ x.width - y.number) ≡ x.number + 1 * 2 ^ x.width = omega arith in
      same_parts x x.width ((x.number + (2 ^ x.width - y.number)) % 2 ^ x.width) refl
      (ap (λ n. n % 2 ^ x.width) whole ∙ add-mul-mod_self_right x.number 1 (2 ^ x.width) ∙ mod-eq_of_lt agree.first.in_range)

  pub sub-same : same ≡ true → HoldsOf Sub a b same Zero
  unfolding two_value two_width op.sub
  sub-same e x y takes agree =
      let equal : x.number ≡ y.number = ap (λ (z : BitVector). z.number) (agree.equal e) in
      let below : x.number < 2 ^ x.width = agree.first.in_range in
      let whole : x.number + (2 ^ x.width - y.number) ≡ 2 ^ x.width = omega arith in
      same_parts (record { width = x.width; number = 0 }) x.width ((x.number + (2 ^ x.width - y.number)) % 2 ^ x.width) refl (ap (λ n. n % 2 ^ x.width) whole ∙ mod_self (2 ^ x.width))

  pub mul-zero_first : a ≡ known.Zero → HoldsOf Mul a b same First
  unfolding two_value op.mul
  mul-zero_first e x y takes agree =
      let zero : x.number ≡ 0 = subst (λ k. IsKnown k x) e agree.first_known in
      let none : x.number * y.number ≡ x.number = ap (λ n. n * y.number) zero ∙ omega arith in
      same_parts x x.width (x.number * y.number % 2 ^ x.width) refl (ap (λ n. n % 2 ^ x.width) none ∙ mod-eq_of_lt agree.first.in_range)

  pub mul-zero_second : b ≡ known.Zero → HoldsOf Mul a b same Second
  unfolding two_value op.mul TakesTwo
  mul-zero_second e x y takes agree =
      let zero : y.number ≡ 0 = subst (λ k. IsKnown k y) e agree.second_known in
      let none : x.number * y.number ≡ y.number = ap (λ n. x.number * n) zero ∙ omega arith in
      let within : y.number < 2 ^ x.width = subst (λ w. y.number < 2 ^ w) (sym takes) agree.second.in_range in
      same_parts y x.width (x.number * y.number % 2 ^ x.width) takes (ap (λ n. n % 2 ^ x.width) none ∙ mod-eq_of_lt within)

  pub mul-one_first : a ≡ known.One → HoldsOf Mul a b same Second
  unfolding two_value op.mul TakesTwo
  mul-one_first e x y takes agree =
      let one : x.number ≡ 1 = subst (λ k. IsKnown k x) e agree.first_known in
      let once : x.number * y.number ≡ y.number = ap (λ n. n * y.number) one ∙ omega arith in
      let within : y.number < 2 ^ x.width = subst (λ w. y.number < 2 ^ w) (sym takes) agree.second.in_range in
      same_parts y x.width (x.number * y.number % 2 ^ x.width) takes (ap (λ n. n % 2 ^ x.width) once ∙ mod-eq_of_lt within)

  pub mul-one_second : b ≡ known.One → HoldsOf Mul a b same First
  unfolding two_value op.mul
  mul-one_second e x y takes agree =
      let one : y.number ≡ 1 = subst (λ k. IsKnown k y) e agree.second_known in
      let once : x.number * y.number ≡ x.number = ap (λ n. x.number * n) one ∙ omega arith in
      same_parts x x.width (x.number * y.number % 2 ^ x.width) refl (ap (λ n. n % 2 ^ x.width) once ∙ mod-eq_of_lt agree.first.in_range)
