-- Chains of operators, comparisons, structs and host functions are lowered.
use Rattle.std.proofs.Common.{◌≡◌, ℕ, suc, ◌+◌, ◌≤◌, List, [], ◌∷◌, length, map, replicate, Option, Some, false, arith, refl, ap, sym, subst, ◌∙◌}
use Rattle.kw_bits.specs.BitVector.{BitVector}
use Rattle.kw_bits.specs.Laws.{HasWidth}
use Rattle.kw_bits.specs.Operators as op
use Rattle.kw_bits.proofs.OperatorLaws.{concat-HasWidth}
use Rattle.koika_syntax.specs.declared.operator.BinaryOperator.{BinaryOperator}
use Rattle.koika_syntax.specs.declared.operator.BinaryOperator.TheVariants as binary
use Rattle.koika_types.specs.Values.{packed, stacked}
use Rattle.koika_types.specs.declared.value.Value.{Value}
use Rattle.koika_types.specs.declared.value.Value.TheVariants as value
use Rattle.koika_types.proofs.Stacks.{concat-nothing, concat_assoc}
use Rattle.typed_core.specs.Evaluation.{Evaluation, Ports, ◌>>=◌, comes_to, evaluate}
use Rattle.typed_core.specs.Fits.{PortsFit}
use Rattle.typed_core.specs.Widths.{HaveWidths}
use Rattle.typed_core.specs.declared.outcome.Stopped.{Stopped}
use Rattle.koika_check.specs.Meaning.{apply, chained, in_turn}
use Rattle.koika_check.specs.Types.{bits, width_of}
use Rattle.koika_check.specs.Typing.{Chains, Operates}
use Rattle.koika_check.specs.declared.checked.Checked.{Checked}
use Rattle.koika_check.specs.declared.typed.Operation.TheVariants as operation
use Rattle.koika_check.specs.declared.typed.ValueType.{ValueType}
use Rattle.koika_lower.specs.inner.Applied.{AreOperands, IsChain, behind, chain_part}
use Rattle.koika_lower.specs.Lowering.{typed_input_widths, register_widths}
use Rattle.koika_lower.specs.inner.Simulation.{IsApplied, Lowers, LowersAll, NamesStand, Sense, Simulates, StandAll, Stands, apply_sense, declared_by, environment, world}
use Rattle.koika_lower.specs.declared.lowered.Bound.{Bound}
use Rattle.koika_lower.specs.declared.lowered.Lowered.{Lowered}
use Rattle.koika_lower.proofs.ChainValues.{are-operands, core, meant, operands-count, operands-typed, sim-chain}
use Rattle.koika_lower.proofs.Constructs.{bits-come, bits-width, sim-core, valid-bits}
use Rattle.koika_lower.proofs.Operands.{sim-cons}
use Rattle.koika_lower.proofs.Values.{total}
use Rattle.koika_lower.proofs.Widths.{width-bits}

-- ---- chains

pub record IsBitsType (t : ValueType) : Type 0 where
  pub width : ℕ
  pub is : t ≡ bits width

operates-bits : (o : BinaryOperator) (left right next : ValueType) → Operates o left right next → IsBitsType next
operates-bits binary.Or left right next c = record { width = c.0; is = c.2 }
operates-bits binary.Xor left right next c = record { width = c.0; is = c.2 }
operates-bits binary.And left right next c = record { width = c.0; is = c.2 }
operates-bits binary.Equal left right next c = record { width = 1; is = c.1 }
operates-bits binary.NotEqual left right next c = record { width = 1; is = c.1 }
operates-bits binary.Less left right next c = record { width = 1; is = c.2 }
operates-bits binary.LessOrEqual left right next c = record { width = 1; is = c.2 }
operates-bits binary.Greater left right next c = record { width = 1; is = c.2 }
operates-bits binary.GreaterOrEqual left right next c = record { width = 1; is = c.2 }
operates-bits binary.Concat left right next c = record { width = c.0 + c.1; is = c.5 }
operates-bits binary.ShiftLeft left right next c = record { width = c.0; is = c.2 }
operates-bits binary.ShiftRight left right next c = record { width = c.0; is = c.2 }
operates-bits binary.ShiftRightSigned left right next c = record { width = c.0; is = c.2 }
operates-bits binary.Add left right next c = record { width = c.0; is = c.2 }
operates-bits binary.Subtract left right next c = record { width = c.0; is = c.2 }
operates-bits binary.Multiply left right next c = record { width = c.0; is = c.2 }

pub chains-bits : (os : List BinaryOperator) (t : ValueType) (ts : List ValueType) (whole : ValueType) → 1 ≤ length os → Chains os t ts whole → IsBitsType whole
chains-bits [] t ts whole some c = absurd (omega arith)
chains-bits (o ∷ os) t [] whole some c = absurd c
chains-bits (o ∷ []) t (u ∷ []) whole some c = let b = operates-bits o t u c.0 c.1 in record { width = b.width; is = c.2 ∙ b.is }
chains-bits (o ∷ []) t (u ∷ w ∷ ts) whole some c = absurd c.2
chains-bits (o ∷ p ∷ os) t (u ∷ ts) whole some c = chains-bits (p ∷ os) c.0 ts whole (omega arith) c.2

pub chains-count : (os : List BinaryOperator) (t : ValueType) (ts : List ValueType) (whole : ValueType) → Chains os t ts whole → length ts ≡ length os
chains-count [] t [] whole c = refl
chains-count [] t (u ∷ ts) whole c = absurd c
chains-count (o ∷ os) t [] whole c = absurd c
chains-count (o ∷ os) t (u ∷ ts) whole c = ap suc (chains-count os c.0 ts whole c.2)

module _ (d : Checked) (n depth : ℕ) (names : List Bound) (types : List ValueType) where
  pub chain-lowers : (os : List BinaryOperator) (wide : ℕ) (ts : List ValueType) (of : Option ValueType) (senses : List Sense) (operands : List Lowered) (l : Lowered) → IsChain os operands l →
      IsApplied d n depth names types (operation.Chain os wide) ts of senses operands → Lowers d n depth names types of (apply_sense (operation.Chain os wide) senses) l
  chain-lowers os wide [] of senses operands l h given = absurd given.applies
  chain-lowers os wide (t ∷ ts) of senses operands l h given =
      let it = given.applies in
      let c = h.typed d t ts it.1 (are-operands d n depth names types (t ∷ ts) senses operands given.all) it.2 in
      let b = chains-bits os t ts it.1 it.0 it.2 in
      let count : length operands ≡ suc (length os) = operands-count d n depth names types (t ∷ ts) senses operands given.all ∙ ap suc (chains-count os t ts it.1 it.2) in
      subst (λ (o : Option ValueType). Lowers d n depth names types o (apply_sense (operation.Chain os wide) senses) l) (sym it.3)
      (record {
        valid = c.1;
        width = c.0;
        typed = λ widths f. c.2 (declared_by d) widths (operands-typed d n depth names types (t ∷ ts) senses operands widths given.all f);
        means = λ inputs ports values locals w p st.
            sim-core (register_widths d) (Stands d (Some it.1)) (apply_sense (operation.Chain os wide) senses (world d n inputs ports) values) (evaluate (environment d inputs) ports l.action locals)
            (chain_part os (core d n depth names types inputs ports values locals w p st operands) locals) (h.means count (environment d inputs) ports locals)
            (sim-chain d n depth names types inputs ports values locals w p st (Stands d (Some it.1)) os t ts it.1 senses operands (apply (world d n inputs ports) (operation.Chain os wide)) given.all it.2
            (λ v vs x y is e hy.
            subst (λ (r : ValueType). Simulates (register_widths d) (Stands d (Some r)) (comes_to (Some (value.Number (chained os (packed v) vs)))) (comes_to y)) (sym b.is)
            (bits-come d (register_widths d) b.width y (chained os (packed v) vs) (sym e) (bits-width d it.1 b.width y b.is hy))));
      })

-- ---- one below the other

-- more below
abbrev pub below : BitVector → List BitVector → BitVector
below z [] = z
below z (x ∷ xs) = below (op.concat z x) xs

pub below-stacked : (z : BitVector) (xs : List BitVector) → below z xs ≡ op.concat z (stacked xs)
below-stacked z [] = sym (concat-nothing z)
below-stacked z (x ∷ xs) = below-stacked (op.concat z x) xs ∙ concat_assoc z x (stacked xs)

pub below-width : (d : Checked) (z : BitVector) (w : ℕ) (ts : List ValueType) (vs : List Value) (xs : List BitVector) → HasWidth z w → StandAll d ts vs xs → w + total d ts ≤ 128 → HasWidth (below z xs) (w + total d ts)
below-width d z w [] [] [] hz all few = (hz.0, hz.1 ∙ omega arith)
below-width d z w [] [] (x ∷ xs) hz all few = absurd all
below-width d z w [] (v ∷ vs) xs hz all few = absurd all
below-width d z w (t ∷ ts) [] xs hz all few = absurd all
below-width d z w (t ∷ ts) (v ∷ vs) [] hz all few = absurd all
below-width d z w (t ∷ ts) (v ∷ vs) (x ∷ xs) hz all few =
    let hx : HasWidth x (width_of d t) = all.0.2 in
    let joined_width = concat-HasWidth z x hz.0 hx.0 (omega (arith, hz.1, hx.1)) in
    let rest = below-width d (op.concat z x) (w + width_of d t) ts vs xs (joined_width.0, joined_width.1 ∙ omega (arith, hz.1, hx.1)) all.1 (omega arith) in
    (rest.0, rest.1 ∙ omega arith)

-- types of bits of such widths
abbrev pub as_wide : Checked → List ValueType → List ValueType
as_wide d [] = []
as_wide d (t ∷ ts) = bits (width_of d t) ∷ as_wide d ts

pub are-wide : (d : Checked) (ts : List ValueType) (ls : List Lowered) → AreOperands d ts ls → AreOperands d (as_wide d ts) ls
are-wide d [] [] h = tt
are-wide d [] (l ∷ ls) h = absurd h
are-wide d (t ∷ ts) [] h = absurd h
are-wide d (t ∷ ts) (l ∷ ls) h = ((h.0.0 ∙ sym (width-bits d (width_of d t)), valid-bits d (width_of d t) h.0.1), are-wide d ts ls h.1)

pub chains-wide : (d : Checked) (w : ℕ) (ts : List ValueType) → w + total d ts ≤ 128 → Chains (replicate (length ts) binary.Concat) (bits w) (as_wide d ts) (bits (w + total d ts))
chains-wide d w [] few = ap bits (omega arith)
chains-wide d w (t ∷ ts) few = (
  bits (w + width_of d t),
  (w, width_of d t, refl, refl, omega arith, refl),
  subst (λ k. Chains (replicate (length ts) binary.Concat) (bits (w + width_of d t)) (as_wide d ts) (bits k)) (omega arith) (chains-wide d (w + width_of d t) ts (omega arith)),
)

module _ (d : Checked) (n depth : ℕ) (names : List Bound) (types : List ValueType) (inputs : List BitVector) (ports : Ports Stopped) (values : List Value) (locals : List BitVector)
    (widths : HaveWidths (typed_input_widths d) inputs) (fit : PortsFit (register_widths d) ports) (st : NamesStand d depth names types values locals) where
  pub sim-below : {V : Type 0} (Q : V → BitVector → Type 0) (ts : List ValueType) (senses : List Sense) (ls : List Lowered) (k : List Value → Evaluation V Stopped) (z : BitVector) →
      LowersAll d n depth false names types (map Some ts) senses ls →
      ((vs : List Value) (xs : List BitVector) → StandAll d ts vs xs → Simulates (register_widths d) Q (k vs) (comes_to (below z xs))) →
      Simulates (register_widths d) Q (in_turn (meant d n depth names types inputs ports values locals widths fit st senses) values >>= k)
      (behind (replicate (length ts) binary.Concat) (core d n depth names types inputs ports values locals widths fit st ls) z locals)
  sim-below Q [] [] [] k z all next = next [] [] tt
  sim-below Q [] [] (l ∷ ls) k z all next = absurd all
  sim-below Q [] (m ∷ ms) ls k z all next = absurd all
  sim-below Q (t ∷ ts) [] ls k z all next = absurd all
  sim-below Q (t ∷ ts) (m ∷ ms) [] k z all next = absurd all
  sim-below Q (t ∷ ts) (m ∷ ms) (l ∷ ls) k z all next =
      sim-cons d (register_widths d) Q t (m (world d n inputs ports)) (meant d n depth names types inputs ports values locals widths fit st ms) values k
      (evaluate (environment d inputs) ports l.action locals) (λ y. behind (replicate (length ts) binary.Concat) (core d n depth names types inputs ports values locals widths fit st ls) (op.concat z y) locals)
      (all.0.means inputs ports values locals widths fit st)
      (λ v x is. sim-below Q ts ms ls (λ vs. k (v ∷ vs)) (op.concat z x) all.1 (λ vs xs rest. next (v ∷ vs) (x ∷ xs) (is, rest)))

  -- all operands, one below the other
  pub sim-joined : {V : Type 0} (Q : V → BitVector → Type 0) (t : ValueType) (ts : List ValueType) (senses : List Sense) (ls : List Lowered) (k : List Value → Evaluation V Stopped) →
      LowersAll d n depth false names types (map Some (t ∷ ts)) senses ls →
      ((v : Value) (vs : List Value) (x : BitVector) (xs : List BitVector) → StandAll d (t ∷ ts) (v ∷ vs) (x ∷ xs) → Simulates (register_widths d) Q (k (v ∷ vs)) (comes_to (below x xs))) →
      Simulates (register_widths d) Q (in_turn (meant d n depth names types inputs ports values locals widths fit st senses) values >>= k)
      (chain_part (replicate (length ts) binary.Concat) (core d n depth names types inputs ports values locals widths fit st ls) locals)
  sim-joined Q t ts [] ls k all next = absurd all
  sim-joined Q t ts (m ∷ ms) [] k all next = absurd all
  sim-joined Q t ts (m ∷ ms) (l ∷ ls) k all next =
      sim-cons d (register_widths d) Q t (m (world d n inputs ports)) (meant d n depth names types inputs ports values locals widths fit st ms) values k
      (evaluate (environment d inputs) ports l.action locals) (λ y. behind (replicate (length ts) binary.Concat) (core d n depth names types inputs ports values locals widths fit st ls) y locals)
      (all.0.means inputs ports values locals widths fit st)
      (λ v x is. sim-below Q ts ms ls (λ vs. k (v ∷ vs)) x all.1 (λ vs xs rest. next v vs x xs (is, rest)))
