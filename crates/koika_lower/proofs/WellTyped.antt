-- What is well typed of a well typed expression: its parts, where they are lowered, and its operation on what they are lowered to.
use Rattle.std.proofs.Common.{◌≡◌, ℕ, zero, suc, ◌+◌, ◌<◌, ◌≤◌, ◌⊎◌, inl, inr, List, [], ◌∷◌, length, map, replicate, drop, get_or, Option, Some, None, Bool, false, slice_get, arith, refl, ap, sym, subst, ◌∙◌}
use Rattle.std.specs.Prelude.{reverse}
use Rattle.std.proofs.lemmas.List.{length-map, length-replicate}
use Rattle.std.proofs.lemmas.Option.{slice_get_within}
use Rattle.koika_types.specs.declared.value.Value.{Value}
use Rattle.koika_check.specs.Types.{bits}
use Rattle.koika_check.specs.Typing.{Applies, AreArms, HasType, IsOf, IsType, IsTypedDesign, Pairwise}
use Rattle.koika_check.specs.declared.checked.Checked.{Checked}
use Rattle.koika_check.specs.declared.checked.CheckedFunction.{CheckedFunction}
use Rattle.koika_check.specs.declared.typed.Operation.{Operation}
use Rattle.koika_check.specs.declared.typed.Operation.TheVariants as operation
use Rattle.koika_check.specs.declared.typed.BlockStep.{BlockStep}
use Rattle.koika_check.specs.declared.typed.BlockStep.TheOpen as opened
use Rattle.koika_check.specs.declared.typed.BlockStep.TheVariants as step
use Rattle.koika_check.specs.declared.typed.Typed.{Typed}
use Rattle.koika_check.specs.declared.typed.Typed.TheVariants as typed
use Rattle.koika_check.specs.declared.typed.ValueType.{ValueType}
use Rattle.koika_check.proofs.TypingLayers.{open-HasType}
use Rattle.koika_lower.specs.inner.Applied.{CanBeApplied}
use Rattle.koika_lower.specs.inner.Expressions.{AreLowered, AreTyped, AreTypedSteps, IsTyped, sense_of}
use Rattle.koika_lower.specs.inner.Simulation.{AreNames, parameter_names}
use Rattle.koika_lower.specs.declared.lowered.Bound.{Bound}
use Rattle.koika_lower.specs.declared.lowered.Lowered.{Lowered}
use Rattle.koika_lower.proofs.Bodies.{body-names}
use Rattle.koika_lower.proofs.Groups.{chains-count}
use Rattle.koika_lower.proofs.Hosts.{arity-cases}
use Rattle.koika_lower.proofs.Lowerings.{IsLowered, lowers-count, some-pairs}
use Rattle.koika_lower.proofs.Lists.{pairs-length}
use Rattle.koika_lower.proofs.Names.{name-at, names-bind}
use Rattle.koika_lower.proofs.Sides.{depth_behind, each-pairwise, names-behind}
use Rattle.koika_lower.proofs.Steps.{do-typed, give-typed, let-typed}
use Rattle.koika_lower.proofs.Values.{struct-total, total}

-- the pair of an item at an index
pair-of : {X Y : Type 0} (P : X → Y → Type 0) (xs : List X) (ys : List Y) (i : ℕ) (x : X) → Pairwise P xs ys → i < length xs → (y : Y) × P (get_or xs i x) y
pair-of P [] ys i x h within = absurd (omega arith)
pair-of P (a ∷ xs) [] i x h within = absurd h
pair-of P (a ∷ xs) (b ∷ ys) zero x h within = (b, h.0)
pair-of P (a ∷ xs) (b ∷ ys) (suc i) x h within = pair-of P xs ys i x h.1 (omega arith)

-- an operation that is no call can be applied to as many operands as it has types
can-be-applied : (d : Checked) (n : ℕ) → IsTypedDesign d → (o : Operation) (ts : List ValueType) (of : Option ValueType) (ls : List Lowered) → length ls ≡ length ts → Applies d n o ts of →
    ((number : ℕ) → o ≡ operation.Call number → ⊥) → CanBeApplied d o ls
can-be-applied d n design (operation.Unary operators) [] of ls count h other = absurd h
can-be-applied d n design (operation.Unary operators) (t ∷ ts) of ls count h other = omega (arith, count)
can-be-applied d n design (operation.Chain operators width) [] of ls count h other = absurd h
can-be-applied d n design (operation.Chain operators width) (t ∷ ts) of ls count h other = omega (arith, count, chains-count operators t ts h.1 h.2)
can-be-applied d n design (operation.Select selections) [] of ls count h other = absurd h
can-be-applied d n design (operation.Select selections) (t ∷ ts) of ls count h other = omega (arith, count)
can-be-applied d n design (operation.Update selection) [] of ls count h other = absurd h
can-be-applied d n design (operation.Update selection) (t ∷ ts) of ls count h other = omega (arith, count)
can-be-applied d n design (operation.Struct number) [] of ls count h other = absurd (omega (arith, struct-total d design number h.1, ap (total d) h.0, h.1.0))
can-be-applied d n design (operation.Struct number) (t ∷ ts) of ls count h other = omega (arith, count)
can-be-applied d n design operation.Array [] of ls count h other = absurd (omega (arith, h.2.0))
can-be-applied d n design operation.Array (t ∷ ts) of ls count h other = omega (arith, count)
can-be-applied d n design operation.Pack [] of ls count h other = absurd h
can-be-applied d n design operation.Pack (t ∷ ts) of ls count h other = omega (arith, count)
can-be-applied d n design (operation.Unpack to) [] of ls count h other = absurd h
can-be-applied d n design (operation.Unpack to) (t ∷ ts) of ls count h other = omega (arith, count)
can-be-applied d n design (operation.Extend extension width) [] of ls count h other = absurd h
can-be-applied d n design (operation.Extend extension width) (t ∷ ts) of ls count h other = omega (arith, count)
can-be-applied d n design (operation.Compare comparison) [] of ls count h other = absurd h
can-be-applied d n design (operation.Compare comparison) (t ∷ []) of ls count h other = absurd h
can-be-applied d n design (operation.Compare comparison) (t ∷ u ∷ []) of ls count h other = count
can-be-applied d n design (operation.Compare comparison) (t ∷ u ∷ w ∷ ts) of ls count h other = absurd h
can-be-applied d n design (operation.Table number) [] of ls count h other = absurd h
can-be-applied d n design (operation.Table number) (t ∷ []) of ls count h other = (slice_get_within d.tables number h.0 h.1, omega (arith, count))
can-be-applied d n design (operation.Table number) (t ∷ u ∷ ts) of ls count h other = absurd h
can-be-applied d n design (operation.Host number) ts of ls count h other =
    let several = count ∙ ap length h.2 ∙ length-replicate _ _ in (
      slice_get_within d.hosts number h.0 h.1,
      elim (arity-cases h.0.spec.kind) [
        | inl one ↦ omega (arith, several, one)
        | inr two ↦ omega (arith, several, two)
      ],
    )
can-be-applied d n design (operation.Call number) ts of ls count h other = other number refl
can-be-applied d n design (operation.Read port register) [] of ls count h other = slice_get_within d.registers register h.0 h.2
can-be-applied d n design (operation.Read port register) (t ∷ ts) of ls count h other = absurd h
can-be-applied d n design (operation.Write port register) [] of ls count h other = absurd h
can-be-applied d n design (operation.Write port register) (t ∷ ts) of ls count h other = omega (arith, count)
can-be-applied d n design operation.Abort ts of ls count h other = tt

module _ (d : Checked) (n depth : ℕ) (names : List Bound) where
  -- ---- expressions, by their kinds

  pub constant-typed : (v : Value) → IsTyped d n depth names (typed.Constant v) → (c : Checked) × (t : ValueType) × IsTypedDesign c × IsType c t × IsOf c v t
  constant-typed v h =
      let it = open-HasType d n (typed.Constant v) (opened.Constant v) (typed.rolls-Constant v) h.0 h.1 h.4 in
      (d, it.0, h.2, it.2, it.1)

  pub local-bound : (index : ℕ) → IsTyped d n depth names (typed.Local index) → index < length names
  local-bound index h =
      let it = open-HasType d n (typed.Local index) (opened.Local index) (typed.rolls-Local index) h.0 h.1 h.4 in
      let at = name-at d depth index names h.0 it.0 h.3 it.1 in
      slice_get_within names index at.bound at.is

  pub input-declared : (number : ℕ) → IsTyped d n depth names (typed.Input number) → number < length d.inputs
  input-declared number h =
      let it = open-HasType d n (typed.Input number) (opened.Input number) (typed.rolls-Input number) h.0 h.1 h.4 in
      slice_get_within d.inputs number it.0 it.1

  pub operands-typed : (o : Operation) (operands : List Typed) → IsTyped d n depth names (typed.Apply o operands) → AreTyped d n depth names operands
  operands-typed o operands h =
      let it = open-HasType d n (typed.Apply o operands) (opened.Apply o operands) (typed.rolls-Apply o operands) h.0 h.1 h.4 in
      (h.0, map Some it.0, h.2, h.3, some-pairs d n h.0 operands it.0 it.1)

  pub operation-fits : (o : Operation) (operands : List Typed) (rising : Bool) (ls : List Lowered) → IsTyped d n depth names (typed.Apply o operands) → AreLowered d n depth rising names operands ls →
      ((number : ℕ) → o ≡ operation.Call number → ⊥) → CanBeApplied d o ls
  operation-fits o operands rising ls h all other =
      let it = open-HasType d n (typed.Apply o operands) (opened.Apply o operands) (typed.rolls-Apply o operands) h.0 h.1 h.4 in
      let each = all h.0 (map Some it.0) h.2 h.3 (some-pairs d n h.0 operands it.0 it.1) in
      can-be-applied d n h.2 o it.0 h.1 ls
      (lowers-count d n depth rising names h.0 (map Some it.0) (map sense_of operands) ls each ∙ length-map operands sense_of ∙
      sym (pairs-length (λ (e : Typed) (t : ValueType). HasType d n e h.0 (Some t)) operands it.0 it.1)) it.2 other

  pub callee-declared : (number : ℕ) (operands : List Typed) → IsTyped d n depth names (typed.Apply (operation.Call number) operands) → (number < n) × (number < length d.functions)
  callee-declared number operands h =
      let it = open-HasType d n (typed.Apply (operation.Call number) operands) (opened.Apply (operation.Call number) operands) (typed.rolls-Apply (operation.Call number) operands) h.0 h.1 h.4 in
      (it.2.1, slice_get_within d.functions number it.2.0 it.2.2)

  pub conditions-typed : (conditions arms : List Typed) → IsTyped d n depth names (typed.If conditions arms) → AreTyped d n depth names conditions
  conditions-typed conditions arms h =
      let it = open-HasType d n (typed.If conditions arms) (opened.If conditions arms) (typed.rolls-If conditions arms) h.0 h.1 h.4 in
      (h.0, replicate (length conditions) (Some (bits 1)), h.2, h.3, each-pairwise (λ (e : Typed) (o : Option ValueType). HasType d n e h.0 o) (Some (bits 1)) conditions it.0)

  pub arms-typed : (conditions arms : List Typed) → IsTyped d n depth names (typed.If conditions arms) → AreTyped d n depth names arms
  arms-typed conditions arms h =
      let it = open-HasType d n (typed.If conditions arms) (opened.If conditions arms) (typed.rolls-If conditions arms) h.0 h.1 h.4 in
      (h.0, replicate (length arms) h.1, h.2, h.3, each-pairwise (λ (e : Typed) (o : Option ValueType). HasType d n e h.0 o) h.1 arms it.1)

  -- as many lowered as expressions
  lowered-each : (es : List Typed) (ls : List Lowered) → AreTyped d n depth names es → AreLowered d n depth false names es ls → length ls ≡ length es
  lowered-each es ls h all = lowers-count d n depth false names h.0 h.1 (map sense_of es) ls (all h.0 h.1 h.2 h.3 h.4) ∙ length-map es sense_of

  pub arms-fit : (conditions arms : List Typed) (tests branches : List Lowered) → IsTyped d n depth names (typed.If conditions arms) → AreLowered d n depth false names conditions tests →
      AreLowered d n depth false names arms branches → (length branches ≡ length tests) ⊎ (length branches ≡ length tests + 1)
  arms-fit conditions arms tests branches h first second =
      let it = open-HasType d n (typed.If conditions arms) (opened.If conditions arms) (typed.rolls-If conditions arms) h.0 h.1 h.4 in
      counted it.2 (lowered-each conditions tests (conditions-typed conditions arms h) first) (lowered-each arms branches (arms-typed conditions arms h) second)
    where
      counted : AreArms (length conditions) (length arms) h.1 → length tests ≡ length conditions → length branches ≡ length arms → (length branches ≡ length tests) ⊎
          (length branches ≡ length tests + 1)
      counted (inl more) cs bs = inr (omega (arith, more, cs, bs))
      counted (inr same) cs bs = inl (omega (arith, same.0, cs, bs))

  pub steps-typed : (steps : List BlockStep) → IsTyped d n depth names (typed.Block steps) → AreTypedSteps d n depth names steps
  steps-typed steps h = (h.0, h.1, h.2, h.3, open-HasType d n (typed.Block steps) (opened.Block steps) (typed.rolls-Block steps) h.0 h.1 h.4)

  -- ---- expressions side by side

  pub one-typed : (es : List Typed) (rising : Bool) (i at : ℕ) (e one : Typed) → AreTyped d n depth names es → i < length es → one ≡ get_or es i e → at ≡ depth_behind rising depth i →
      IsTyped d n at names one
  one-typed es rising i at e one h within is place =
      let pair = pair-of (λ (e : Typed) (o : Option ValueType). HasType d n e h.0 o) es h.1 i e h.4 within in (
        h.0,
        pair.0,
        h.2,
        subst (λ k. AreNames d k names h.0) (sym place) (names-behind d rising depth i names h.0 h.3),
        subst (λ (x : Typed). HasType d n x h.0 pair.0) (sym is) pair.1,
      )

  -- ---- steps

  pub let-value-typed : (v : Typed) (rest : List BlockStep) → AreTypedSteps d n depth names (step.Let v ∷ rest) → IsTyped d n depth names v
  let-value-typed v rest h = let it = let-typed d n rest h.0 h.1 v h.4 in (h.0, Some it.0, h.2, h.3, it.1)

  pub let-rest-typed : (v : Typed) (rest : List BlockStep) (first : Lowered) (at : ℕ) (inside : List Bound) → AreTypedSteps d n depth names (step.Let v ∷ rest) → IsLowered d n depth names v first →
      at ≡ depth + 1 → inside ≡ record { level = depth; width = first.width } ∷ names → AreTypedSteps d n at inside rest
  let-rest-typed v rest first at inside h made place is =
      let it = let-typed d n rest h.0 h.1 v h.4 in
      let value = made h.0 (Some it.0) h.2 h.3 it.1 in (
        it.0 ∷ h.0,
        h.1,
        h.2,
        subst (λ (bs : List Bound). AreNames d at bs (it.0 ∷ h.0)) (sym is)
            (subst (λ k. AreNames d k (record { level = depth; width = first.width } ∷ names) (it.0 ∷ h.0)) (sym place)
            (names-bind d depth names h.0 it.0 first.width value.width value.valid h.3)),
        it.2,
      )

  pub do-value-typed : (v : Typed) (rest : List BlockStep) → AreTypedSteps d n depth names (step.Do v ∷ rest) → IsTyped d n depth names v
  do-value-typed v rest h = let it = do-typed d n rest h.0 h.1 v h.4 in (h.0, it.0, h.2, h.3, it.1)

  pub do-rest-typed : (v : Typed) (rest : List BlockStep) → AreTypedSteps d n depth names (step.Do v ∷ rest) → AreTypedSteps d n depth names rest
  do-rest-typed v rest h = let it = do-typed d n rest h.0 h.1 v h.4 in (h.0, h.1, h.2, h.3, it.2)

  pub give-value-typed : (v : Typed) (rest : List BlockStep) → AreTypedSteps d n depth names (step.Give v ∷ rest) → IsTyped d n depth names v
  give-value-typed v rest h = (h.0, h.1, h.2, h.3, give-typed d n rest h.0 h.1 v h.4)

-- ---- bodies of functions

pub body-typed : (d : Checked) (number index : ℕ) (f : CheckedFunction) (names : List Bound) → IsTypedDesign d → slice_get d.functions number ≡ Some f → index ≤ length f.parameters →
    length f.parameters ≤ index →
    parameter_names d index (drop index f.parameters) names ≡ parameter_names d 0 f.parameters [] → IsTyped d number index names f.body
body-typed d number index f names design at within past bound =
    let is = design.functions number f at in
    (reverse f.parameters, f.result, design, body-names d number index f names is within past bound, is.body)

-- the body of a rule stands where no name is bound, and may call all functions
pub rule-typed : (d : Checked) (functions : ℕ) (names : List Bound) (body : Typed) → IsTypedDesign d → functions ≡ length d.functions → names ≡ [] → HasType d (length d.functions) body [] None →
    IsTyped d functions 0 names body
rule-typed d functions names body design all none typed =
    ([], None, design, subst (λ (bs : List Bound). AreNames d 0 bs []) (sym none) tt, subst (λ n. HasType d n body [] None) (sym all) typed)
