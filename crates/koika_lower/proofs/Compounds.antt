-- Comparisons of signed numbers, structs and host functions are lowered.
use Rattle.std.proofs.Common.{◌≡◌, ℕ, zero, suc, ◌+◌, ◌-◌, ◌≤◌, List, [], ◌∷◌, length, map, replicate, Option, Some, arith, refl, ap, sym, subst, ◌∙◌}
use Rattle.kw_bits.specs.BitVector.{BitVector}
use Rattle.koika_syntax.specs.declared.operator.BinaryOperator.TheVariants as binary
use Rattle.koika_types.specs.declared.value.Value.{Value}
use Rattle.koika_types.specs.declared.value.Value.TheVariants as value
use Rattle.koika_types.specs.declared.value.Value.TheOpen.{Value-F}
use Rattle.koika_types.proofs.Layers.{packed-Fields}
use Rattle.typed_core.specs.Evaluation.{evaluate}
use Rattle.koika_check.specs.Composites.{fields_of}
use Rattle.koika_check.specs.Meaning.{apply}
use Rattle.koika_check.specs.Types.{bits, of_base, width_of}
use Rattle.koika_check.specs.Typing.{IsOf, IsType, IsTypedDesign, Pairwise}
use Rattle.koika_check.specs.declared.checked.Checked.{Checked}
use Rattle.koika_check.specs.declared.checked.CheckedField.{CheckedField}
use Rattle.koika_check.specs.declared.typed.BaseType.TheVariants as base
use Rattle.koika_check.specs.declared.typed.Operation.TheVariants as operation
use Rattle.koika_check.specs.declared.typed.ValueType.{ValueType}
use Rattle.koika_lower.specs.inner.Applied.{IsChain, chain_part}
use Rattle.koika_lower.specs.Lowering.{register_widths}
use Rattle.koika_lower.specs.inner.Simulation.{IsApplied, Lowers, Sense, StandAll, Stands, apply_sense, declared_by, environment, world}
use Rattle.koika_lower.specs.declared.lowered.Bound.{Bound}
use Rattle.koika_lower.specs.declared.lowered.Lowered.{Lowered}
use Rattle.koika_lower.proofs.ChainValues.{are-operands, core, operands-count, operands-typed}
use Rattle.koika_lower.proofs.Constructs.{sim-core}
use Rattle.koika_lower.proofs.Groups.{are-wide, as_wide, below, below-stacked, below-width, chains-wide, sim-joined}
use Rattle.koika_lower.proofs.Values.{stand-stacked, struct-total, total}
use Rattle.koika_lower.proofs.Simulations.{sim-value}
use Rattle.koika_check.proofs.TypingLayers.{close-IsOf}
use Rattle.koika_lower.proofs.Widths.{width-bits}

-- ---- structs

pub struct-stands : (d : Checked) → IsTypedDesign d → (number : ℕ) (t : ValueType) (ts : List ValueType) (v : Value) (vs : List Value) (x : BitVector) (xs : List BitVector) → IsType d (of_base (base.Struct number)) →
    t ∷ ts ≡ map (λ (f : CheckedField). f.of) (fields_of d number) → StandAll d (t ∷ ts) (v ∷ vs) (x ∷ xs) → Stands d (Some (of_base (base.Struct number))) (Some (value.Fields number (v ∷ vs))) (below x xs)
struct-stands d design number t ts v vs x xs valid e h =
    let both = stand-stacked d (t ∷ ts) (v ∷ vs) (x ∷ xs) h in
    let whole : total d (t ∷ ts) ≡ width_of d (of_base (base.Struct number)) = ap (total d) e ∙ struct-total d design number valid in
    let w = below-width d x (width_of d t) ts vs xs h.0.2 h.1 (omega (arith, whole, valid.1)) in (
      close-IsOf d (value.Fields number (v ∷ vs)) (Value-F.Fields number (v ∷ vs)) (value.rolls-Fields number (v ∷ vs)) (of_base (base.Struct number)) (refl, subst (λ us. Pairwise (IsOf d) (v ∷ vs) us) e both.0),
      packed-Fields number (v ∷ vs) ∙ both.1 ∙ sym (below-stacked x xs),
      (w.0, w.1 ∙ whole),
    )

module _ (d : Checked) (n depth : ℕ) (names : List Bound) (types : List ValueType) where
  pub struct-lowers : (number : ℕ) (ts : List ValueType) (of : Option ValueType) (senses : List Sense) (operands : List Lowered) (l : Lowered) →
      IsChain (replicate (length operands - 1) binary.Concat) operands l → IsApplied d n depth names types (operation.Struct number) ts of senses operands →
      Lowers d n depth names types of (apply_sense (operation.Struct number) senses) l
  struct-lowers number [] of senses operands l h given =
      let it = given.applies in
      absurd (omega (arith, struct-total d given.design number it.1, ap (total d) it.0, it.1.0))
  struct-lowers number (t ∷ ts) of senses operands l h given =
      let it = given.applies in
      let whole : total d (t ∷ ts) ≡ width_of d (of_base (base.Struct number)) = ap (total d) it.0 ∙ struct-total d given.design number it.1 in
      let few : width_of d t + total d ts ≤ 128 = omega (arith, whole, it.1.1) in
      let count : length operands ≡ suc (length ts) = operands-count d n depth names types (t ∷ ts) senses operands given.all in
      let is : IsChain (replicate (length ts) binary.Concat) operands l = subst (λ k. IsChain (replicate k binary.Concat) operands l) (omega (arith, count)) h in
      let c = is.typed d (bits (width_of d t)) (as_wide d ts) (bits (width_of d t + total d ts)) (are-wide d (t ∷ ts) operands (are-operands d n depth names types (t ∷ ts) senses operands given.all)) (chains-wide d (width_of d t) ts few) in
      subst (λ (o : Option ValueType). Lowers d n depth names types o (apply_sense (operation.Struct number) senses) l) (sym it.2)
      (record {
        valid = it.1;
        width = c.0 ∙ width-bits d (width_of d t + total d ts) ∙ whole;
        typed = λ widths f. c.2 (declared_by d) widths (operands-typed d n depth names types (t ∷ ts) senses operands widths given.all f);
        means = λ inputs ports values locals w p st.
            sim-core (register_widths d) (Stands d (Some (of_base (base.Struct number)))) (apply_sense (operation.Struct number) senses (world d n inputs ports) values) (evaluate (environment d inputs) ports l.action locals)
            (chain_part (replicate (length ts) binary.Concat) (core d n depth names types inputs ports values locals w p st operands) locals)
            (is.means (count ∙ ap suc (sym (length-same (length ts)))) (environment d inputs) ports locals)
            (sim-joined d n depth names types inputs ports values locals w p st (Stands d (Some (of_base (base.Struct number)))) t ts senses operands (apply (world d n inputs ports) (operation.Struct number)) given.all
            (λ v vs x xs all. sim-value (register_widths d) (Stands d (Some (of_base (base.Struct number)))) (Some (value.Fields number (v ∷ vs))) (below x xs)
            (struct-stands d given.design number t ts v vs x xs it.1 it.0 all)));
      })
    where
      length-same : (k : ℕ) → length (replicate k binary.Concat) ≡ k
      length-same zero = refl
      length-same (suc k) = ap suc (length-same k)
