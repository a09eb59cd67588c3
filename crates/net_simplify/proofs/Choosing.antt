-- What a choice comes to where something is known of its condition and of what is chosen from.
use Rattle.std.proofs.Common.{◌≡◌, ◌≢◌, ℕ, ◌-◌, ◌^◌, ◌<◌, ◌⊎◌, inl, inr, Bool, true, false, bit_and, bit_or, refl, sym, ap, subst, ◌∙◌, arith}
use Rattle.std.specs.Prelude.{nat_eq}
use Rattle.std.specs.Int.Bits.{and_zero_l, or_zero_l}
use Rattle.std.proofs.lemmas.Bool.{cases_eq, cond-false, cond-true, eq-eqb, ne_eqb}
use Rattle.std.proofs.lemmas.Nat.{and_comm, or_comm}
use Rattle.kw_bits.specs.BitVector.{BitVector}
use Rattle.kw_bits.specs.Laws.{HasWidth}
use Rattle.kw_bits.specs.Operators as op
use Rattle.net_graph.specs.Operators.{ite_value}
use Rattle.net_simplify.specs.inner.Identities.{choice_value, ComesTo, IsKnown}
use Rattle.net_simplify.specs.declared.choices.Choice.{Choice}
use Rattle.net_simplify.specs.declared.choices.Choice.TheVariants.{First, Second, Condition, NotCondition, ConditionOrSecond, ConditionAndFirst}
use Rattle.net_simplify.specs.declared.known.Known.{Known}
use Rattle.net_simplify.specs.declared.known.Known.TheVariants as known
use Rattle.net_simplify.proofs.Units.{ones_and, ones_or, same_parts}

pub chosen_first : (c x y : BitVector) → c.number ≡ 1 → ite_value c x y ≡ x
unfolding ite_value
chosen_first c x y h = cond-true (nat_eq c.number 1) x y (eq-eqb c.number 1 h)

pub chosen_second : (c x y : BitVector) → c.number ≢ 1 → ite_value c x y ≡ y
unfolding ite_value
chosen_second c x y h = cond-false (nat_eq c.number 1) x y (ne_eqb c.number 1 h)

-- a number of one bit
one_bit : (x : BitVector) → HasWidth x 1 → x.number < 2
one_bit x h = subst (λ w. x.number < 2 ^ w) h.1 h.0.in_range

one_bit_ones : (x : BitVector) → x.width ≡ 1 → IsKnown known.Ones x → x.number ≡ 1
one_bit_ones x w h = h ∙ ap (λ n. 2 ^ n - 1) w

-- by the two values of a condition
by_condition : (choice : Choice) (c x y : BitVector) → HasWidth c 1 → (c.number ≡ 1 → x ≡ choice_value choice c x y) → (c.number ≢ 1 → c.number ≡ 0 → y ≡ choice_value choice c x y) → ite_value c x y ≡ choice_value choice c x y
by_condition choice c x y bit set clear = by (cases_eq c.number 1)
  where
    by : (c.number ≡ 1) ⊎ (c.number ≢ 1) → ite_value c x y ≡ choice_value choice c x y
    by (inl h) = chosen_first c x y h ∙ set h
    by (inr h) = chosen_second c x y h ∙ clear h (omega (arith, h, one_bit c bit))

module _ (condition a b : Known) (one same : Bool) where
  pub choice-ones : condition ≡ known.Ones → ComesTo condition a b one same First
  choice-ones e c x y suit =
      chosen_first c x y (one_bit_ones c suit.is_bit.1 (subst (λ k. IsKnown k c) e suit.condition_known))

  pub choice-zero : condition ≡ known.Zero → ComesTo condition a b one same Second
  choice-zero e c x y suit =
      let zero : c.number ≡ 0 = subst (λ k. IsKnown k c) e suit.condition_known in
      chosen_second c x y (λ h. absurd (omega arith))

  pub choice-same : same ≡ true → ComesTo condition a b one same First
  choice-same e c x y suit = by_condition First c x y suit.is_bit (λ h. refl) (λ h z. sym (suit.equal e))

  -- one bit that is chosen by what is known of the choices alone
  pub choice-bit : one ≡ true → (choice : Choice) → ComesTo known.Nothing a b true false choice → ComesTo condition a b one same choice
  choice-bit e choice h c x y suit = h c x y (record {
    is_bit = suit.is_bit;
    first = suit.first;
    second = suit.second;
    one_width = suit.one_width;
    narrow = λ _. suit.narrow e;
    condition_known = tt;
    first_known = suit.first_known;
    second_known = suit.second_known;
    equal = λ f. absurd cc;
  })

module _ (a b : Known) where
  pub bit-condition : a ≡ known.Ones → b ≡ known.Zero → ComesTo known.Nothing a b true false Condition
  bit-condition e f c x y suit =
      let wide : x.width ≡ 1 = suit.narrow refl in
      by_condition Condition c x y suit.is_bit
      (λ h. same_parts c x.width x.number (wide ∙ sym suit.is_bit.1) (one_bit_ones x wide (subst (λ k. IsKnown k x) e (suit.first_known h)) ∙ sym h))
      (λ h z. same_parts c y.width y.number (sym suit.one_width ∙ wide ∙ sym suit.is_bit.1) (subst (λ k. IsKnown k y) f (suit.second_known h) ∙ sym z))

  pub bit-not_condition : a ≡ known.Zero → b ≡ known.Ones → ComesTo known.Nothing a b true false NotCondition
  unfolding op.not
  bit-not_condition e f c x y suit =
      let wide : x.width ≡ 1 = suit.narrow refl in
      let turned : (n : ℕ) → c.number ≡ n → 2 ^ c.width - 1 - c.number ≡ 1 - n = λ n h. ap (λ w. 2 ^ w - 1 - c.number) suit.is_bit.1 ∙ ap (λ k. 1 - k) h in
      by_condition NotCondition c x y suit.is_bit
      (λ h. same_parts (op.not c) x.width x.number (wide ∙ sym suit.is_bit.1) (subst (λ k. IsKnown k x) e (suit.first_known h) ∙ sym (turned 1 h)))
      (λ h z. same_parts (op.not c) y.width y.number (sym suit.one_width ∙ wide ∙ sym suit.is_bit.1)
      (one_bit_ones y (sym suit.one_width ∙ wide) (subst (λ k. IsKnown k y) f (suit.second_known h)) ∙ sym (turned 0 z)))

  pub bit-or : a ≡ known.Ones → ComesTo known.Nothing a b true false ConditionOrSecond
  unfolding op.or
  bit-or e c x y suit =
      let wide : x.width ≡ 1 = suit.narrow refl in
      let below : y.number < 2 ^ 1 = subst (λ w. y.number < 2 ^ w) (sym suit.one_width ∙ wide) suit.second.in_range in
      by_condition ConditionOrSecond c x y suit.is_bit
      (λ h. same_parts (op.or c y) x.width x.number (wide ∙ sym suit.is_bit.1)
      (one_bit_ones x wide (subst (λ k. IsKnown k x) e (suit.first_known h)) ∙ sym (ap (λ n. bit_or n y.number) h ∙ or_comm 1 y.number ∙ ones_or 1 y.number below)))
      (λ h z. same_parts (op.or c y) y.width y.number (sym suit.one_width ∙ wide ∙ sym suit.is_bit.1) (sym (ap (λ n. bit_or n y.number) z ∙ or_zero_l y.number)))

  pub bit-and : b ≡ known.Zero → ComesTo known.Nothing a b true false ConditionAndFirst
  unfolding op.and
  bit-and f c x y suit =
      let wide : x.width ≡ 1 = suit.narrow refl in
      let below : x.number < 2 ^ 1 = subst (λ w. x.number < 2 ^ w) wide suit.first.in_range in
      by_condition ConditionAndFirst c x y suit.is_bit
      (λ h. same_parts (op.and c x) x.width x.number (wide ∙ sym suit.is_bit.1) (sym (ap (λ n. bit_and n x.number) h ∙ and_comm 1 x.number ∙ ones_and 1 x.number below)))
      (λ h z. same_parts (op.and c x) y.width y.number (sym suit.one_width ∙ wide ∙ sym suit.is_bit.1)
      (subst (λ k. IsKnown k y) f (suit.second_known h) ∙ sym (ap (λ n. bit_and n x.number) z ∙ and_zero_l x.number)))
