-- What chains of operators on lowered operands come to.
use Rattle.std.proofs.Common.{◌≡◌, ℕ, suc, ◌+◌, List, [], ◌∷◌, length, map, Some, false, arith, refl, ap, sym, subst, ◌∙◌}
use Rattle.std.specs.List.{AllByRecursion}
use Rattle.kw_bits.specs.BitVector.{BitVector}
use Rattle.kw_bits.specs.Laws.{ComparesToOneBit, HasWidth, KeepsCommonWidth}
use Rattle.kw_bits.specs.Operators as op
use Rattle.kw_bits.proofs.OperatorLaws.{add-HasWidth, and-HasWidth, concat-HasWidth, eq_bits-HasWidth, mul-HasWidth, not-HasWidth, or-HasWidth, sll-HasWidth, sra-HasWidth, srl-HasWidth, sub-HasWidth, ult-HasWidth, ulte-HasWidth, xor-HasWidth}
use Rattle.koika_syntax.specs.declared.operator.BinaryOperator.{BinaryOperator}
use Rattle.koika_syntax.specs.declared.operator.BinaryOperator.TheVariants as binary
use Rattle.koika_types.specs.Values.{packed}
use Rattle.koika_types.specs.declared.value.Value.{Value}
use Rattle.typed_core.specs.Evaluation.{Evaluation, Ports, ◌>>=◌, comes_to, evaluate}
use Rattle.typed_core.specs.Fits.{PortsFit}
use Rattle.typed_core.specs.Valid.{ActionHasWidth}
use Rattle.typed_core.specs.Widths.{HaveWidths}
use Rattle.typed_core.specs.declared.outcome.Stopped.{Stopped}
use Rattle.koika_check.specs.Meaning.{Meaning, binary_value, chained, in_turn}
use Rattle.koika_check.specs.Types.{bits, width_of}
use Rattle.koika_check.specs.Typing.{Calculates, Chains, Joins, Operates}
use Rattle.koika_check.specs.declared.checked.Checked.{Checked}
use Rattle.koika_check.specs.declared.typed.ValueType.{ValueType}
use Rattle.koika_lower.specs.inner.Applied.{AreOperands, behind, chain_part}
use Rattle.koika_lower.specs.Lowering.{typed_input_widths, register_widths}
use Rattle.koika_lower.specs.inner.Simulation.{LowersAll, NamesFit, NamesStand, Sense, Simulates, Stands, declared_by, environment, world}
use Rattle.koika_lower.specs.declared.lowered.Bound.{Bound}
use Rattle.koika_lower.specs.declared.lowered.Lowered.{Lowered}
use Rattle.koika_lower.proofs.Operands.{meanings, parts, sim-cons}
use Rattle.koika_lower.proofs.Widths.{width-bits}

module _ (d : Checked) (left right next : ValueType) (x y : BitVector) (hx : HasWidth x (width_of d left)) (hy : HasWidth y (width_of d right)) where
  calculates : (f : BitVector → BitVector → BitVector) → KeepsCommonWidth f → Calculates left right next → HasWidth (f x y) (width_of d next)
  calculates f keeps c =
      let same : x.width ≡ y.width = hx.1 ∙ ap (width_of d) (c.1.0 ∙ sym c.1.1) ∙ sym hy.1 in
      let r = keeps x y hx.0 hy.0 same in (r.0, r.1 ∙ hx.1 ∙ ap (width_of d) (c.1.0 ∙ sym c.2))

  compares : (f : BitVector → BitVector → BitVector) → ComparesToOneBit f → left ≡ right → next ≡ bits 1 → HasWidth (f x y) (width_of d next)
  compares f keeps e n =
      let r = keeps x y hx.0 hy.0 (hx.1 ∙ ap (width_of d) e ∙ sym hy.1) in (r.0, r.1 ∙ sym (ap (width_of d) n ∙ width-bits d 1))

  contrary : HasWidth (op.eq_bits x y) 1 → next ≡ bits 1 → HasWidth (op.not (op.eq_bits x y)) (width_of d next)
  contrary h n = let r = not-HasWidth (op.eq_bits x y) h.0 in (r.0, r.1 ∙ h.1 ∙ sym (ap (width_of d) n ∙ width-bits d 1))

  flipped : (f : BitVector → BitVector → BitVector) → ComparesToOneBit f → left ≡ right → next ≡ bits 1 → HasWidth (f y x) (width_of d next)
  flipped f keeps e n =
      let r = keeps y x hy.0 hx.0 (hy.1 ∙ ap (width_of d) (sym e) ∙ sym hx.1) in (r.0, r.1 ∙ sym (ap (width_of d) n ∙ width-bits d 1))

  joins : Joins left right next → HasWidth (op.concat x y) (width_of d next)
  joins c =
      let high : x.width ≡ c.0 = hx.1 ∙ ap (width_of d) c.2 ∙ width-bits d c.0 in
      let low : y.width ≡ c.1 = hy.1 ∙ ap (width_of d) c.3 ∙ width-bits d c.1 in
      let r = concat-HasWidth x y hx.0 hy.0 (omega (arith, c.4)) in (r.0, r.1 ∙ omega (arith, high, low, ap (width_of d) c.5, width-bits d (c.0 + c.1)))

  -- the operator's value has its type's width
  pub operates-width : (o : BinaryOperator) → Operates o left right next → HasWidth (binary_value o x y) (width_of d next)
  operates-width binary.Or c = calculates op.or or-HasWidth c
  operates-width binary.Xor c = calculates op.xor xor-HasWidth c
  operates-width binary.And c = calculates op.and and-HasWidth c
  operates-width binary.Equal c = compares op.eq_bits eq_bits-HasWidth c.0 c.1
  operates-width binary.NotEqual c = contrary (eq_bits-HasWidth x y hx.0 hy.0 (hx.1 ∙ ap (width_of d) c.0 ∙ sym hy.1)) c.1
  operates-width binary.Less c = compares op.ult ult-HasWidth (c.1.0 ∙ sym c.1.1) c.2
  operates-width binary.LessOrEqual c = compares op.ulte ulte-HasWidth (c.1.0 ∙ sym c.1.1) c.2
  operates-width binary.Greater c = flipped op.ult ult-HasWidth (c.1.0 ∙ sym c.1.1) c.2
  operates-width binary.GreaterOrEqual c = flipped op.ulte ulte-HasWidth (c.1.0 ∙ sym c.1.1) c.2
  operates-width binary.Concat c = joins c
  operates-width binary.ShiftLeft c = calculates op.sll sll-HasWidth c
  operates-width binary.ShiftRight c = calculates op.srl srl-HasWidth c
  operates-width binary.ShiftRightSigned c = calculates op.sra sra-HasWidth c
  operates-width binary.Add c = calculates op.add add-HasWidth c
  operates-width binary.Subtract c = calculates op.sub sub-HasWidth c
  operates-width binary.Multiply c = calculates op.mul mul-HasWidth c

-- the types of lowered operands, and their widths
module _ (d : Checked) (n depth : ℕ) (names : List Bound) (types : List ValueType) where
  pub are-operands : (ts : List ValueType) (senses : List Sense) (ls : List Lowered) → LowersAll d n depth false names types (map Some ts) senses ls → AreOperands d ts ls
  are-operands [] [] [] all = tt
  are-operands [] [] (l ∷ ls) all = absurd all
  are-operands [] (m ∷ ms) ls all = absurd all
  are-operands (t ∷ ts) [] ls all = absurd all
  are-operands (t ∷ ts) (m ∷ ms) [] all = absurd all
  are-operands (t ∷ ts) (m ∷ ms) (l ∷ ls) all = ((all.0.width, all.0.valid), are-operands ts ms ls all.1)

  pub operands-typed : (ts : List ValueType) (senses : List Sense) (ls : List Lowered) (widths : List ℕ) → LowersAll d n depth false names types (map Some ts) senses ls → NamesFit depth names widths →
      AllByRecursion (λ (l : Lowered). ActionHasWidth (declared_by d) l.action widths l.width) ls
  operands-typed [] [] [] widths all f = tt
  operands-typed [] [] (l ∷ ls) widths all f = absurd all
  operands-typed [] (m ∷ ms) ls widths all f = absurd all
  operands-typed (t ∷ ts) [] ls widths all f = absurd all
  operands-typed (t ∷ ts) (m ∷ ms) [] widths all f = absurd all
  operands-typed (t ∷ ts) (m ∷ ms) (l ∷ ls) widths all f = (all.0.typed widths f, operands-typed ts ms ls widths all.1 f)

  pub operands-count : (ts : List ValueType) (senses : List Sense) (ls : List Lowered) → LowersAll d n depth false names types (map Some ts) senses ls → length ls ≡ length ts
  operands-count [] [] [] all = refl
  operands-count [] [] (l ∷ ls) all = absurd all
  operands-count [] (m ∷ ms) ls all = absurd all
  operands-count (t ∷ ts) [] ls all = absurd all
  operands-count (t ∷ ts) (m ∷ ms) [] all = absurd all
  operands-count (t ∷ ts) (m ∷ ms) (l ∷ ls) all = ap suc (operands-count ts ms ls all.1)

module _ (d : Checked) (n depth : ℕ) (names : List Bound) (types : List ValueType) (inputs : List BitVector) (ports : Ports Stopped) (values : List Value) (locals : List BitVector)
    (widths : HaveWidths (typed_input_widths d) inputs) (fit : PortsFit (register_widths d) ports) (st : NamesStand d depth names types values locals) where
  abbrev pub meant : List Sense → List (Meaning Stopped)
  meant = meanings d n names types inputs ports values widths fit

  abbrev pub core : List Lowered → List (List BitVector → Evaluation BitVector Stopped)
  core = parts d n names types inputs ports values widths fit

  -- operands behind a value so far
  sim-behind : {V : Type 0} (Q : V → BitVector → Type 0) (os : List BinaryOperator) (left : ValueType) (ts : List ValueType) (of : ValueType) (senses : List Sense) (ls : List Lowered)
      (k : List Value → Evaluation V Stopped) (z : BitVector) → LowersAll d n depth false names types (map Some ts) senses ls → Chains os left ts of → HasWidth z (width_of d left) →
      ((vs : List Value) (y : BitVector) → y ≡ chained os z vs → HasWidth y (width_of d of) → Simulates (register_widths d) Q (k vs) (comes_to y)) →
      Simulates (register_widths d) Q (in_turn (meant senses) values >>= k) (behind os (core ls) z locals)
  sim-behind Q [] left [] of [] [] k z all chains hz next = next [] z refl (subst (λ (t : ValueType). HasWidth z (width_of d t)) (sym chains) hz)
  sim-behind Q [] left [] of [] (l ∷ ls) k z all chains hz next = absurd all
  sim-behind Q [] left [] of (m ∷ ms) ls k z all chains hz next = absurd all
  sim-behind Q [] left (t ∷ ts) of senses ls k z all chains hz next = absurd chains
  sim-behind Q (o ∷ os) left [] of senses ls k z all chains hz next = absurd chains
  sim-behind Q (o ∷ os) left (t ∷ ts) of [] ls k z all chains hz next = absurd all
  sim-behind Q (o ∷ os) left (t ∷ ts) of (m ∷ ms) [] k z all chains hz next = absurd all
  sim-behind Q (o ∷ os) left (t ∷ ts) of (m ∷ ms) (l ∷ ls) k z all chains hz next =
      sim-cons d (register_widths d) Q t (m (world d n inputs ports)) (meant ms) values k (evaluate (environment d inputs) ports l.action locals) (λ y. behind os (core ls) (binary_value o z y) locals)
      (all.0.means inputs ports values locals widths fit st)
      (λ v x is. sim-behind Q os chains.0 ts of ms ls (λ vs. k (v ∷ vs)) (binary_value o z x) all.1 chains.2 (operates-width d left t chains.0 z x hz is.2 o chains.1)
      (λ vs y e hy. next (v ∷ vs) y (e ∙ ap (λ p. chained os (binary_value o z p) vs) (sym is.1)) hy))

  -- all operands of a chain
  pub sim-chain : {V : Type 0} (Q : V → BitVector → Type 0) (os : List BinaryOperator) (t : ValueType) (ts : List ValueType) (of : ValueType) (senses : List Sense) (ls : List Lowered)
      (k : List Value → Evaluation V Stopped) → LowersAll d n depth false names types (map Some (t ∷ ts)) senses ls → Chains os t ts of →
      ((v : Value) (vs : List Value) (x y : BitVector) → Stands d (Some t) (Some v) x → y ≡ chained os (packed v) vs → HasWidth y (width_of d of) → Simulates (register_widths d) Q (k (v ∷ vs)) (comes_to y)) →
      Simulates (register_widths d) Q (in_turn (meant senses) values >>= k) (chain_part os (core ls) locals)
  sim-chain Q os t ts of [] ls k all chains next = absurd all
  sim-chain Q os t ts of (m ∷ ms) [] k all chains next = absurd all
  sim-chain Q os t ts of (m ∷ ms) (l ∷ ls) k all chains next =
      sim-cons d (register_widths d) Q t (m (world d n inputs ports)) (meant ms) values k (evaluate (environment d inputs) ports l.action locals) (λ x. behind os (core ls) x locals)
      (all.0.means inputs ports values locals widths fit st)
      (λ v x is. sim-behind Q os t ts of ms ls (λ vs. k (v ∷ vs)) x all.1 chains is.2
      (λ vs y e hy. next v vs x y is (e ∙ ap (λ p. chained os p vs) (sym is.1)) hy))
