-- The parts of what is well typed where some functions are, and the bodies of these functions.
use Rattle.std.proofs.Common.{◌≡◌, ℕ, zero, suc, ◌<◌, inl, inr, List, [], ◌∷◌, length, take, slice_get, Option, Some, None, arith, sym, subst}
use Rattle.std.specs.List.{All, AllByRecursion}
use Rattle.std.specs.Prelude.{reverse}
use Rattle.std.proofs.lemmas.List.{length-take-le}
use Rattle.std.proofs.lemmas.List.Elements.{All-from_recursion, All-weaker}
use Rattle.std.proofs.lemmas.Option.{slice_get_within}
use Rattle.koika_check.specs.Types.{bits}
use Rattle.koika_check.specs.Typing.{Binds, Doing, Gives, HasType, IsTypedDesign, Pairwise, Runs, StepDoes, StepsHaveType}
use Rattle.koika_check.specs.inner.BitWeights.{AppliesAmong, AreFunctions, IsStepAmong, IsTypedAmong}
use Rattle.koika_check.specs.inner.Typing.{StepHasType}
use Rattle.koika_check.specs.declared.checked.Checked.{Checked}
use Rattle.koika_check.specs.declared.checked.CheckedFunction.{CheckedFunction}
use Rattle.koika_check.specs.declared.typed.Operation.{Operation}
use Rattle.koika_check.specs.declared.typed.Operation.TheVariants as operation
use Rattle.koika_check.specs.declared.typed.BlockStep.{BlockStep}
use Rattle.koika_check.specs.declared.typed.BlockStep.TheOpen as opened
use Rattle.koika_check.specs.declared.typed.BlockStep.TheVariants as step
use Rattle.koika_check.specs.declared.typed.Typed.{Typed}
use Rattle.koika_check.specs.declared.typed.Typed.TheVariants as typed
use Rattle.koika_check.specs.declared.typed.ValueType.{ValueType}
use Rattle.koika_check.proofs.TypingLayers.{open-HasType, open-step}

-- ---- lists of parts

-- each of the first of some pairs
each-first : {X Y : Type 0} (is : X → Y → Type 0) (P : X → Type 0) → ((x : X) (y : Y) → is x y → P x) → (xs : List X) (ys : List Y) → Pairwise is xs ys → AllByRecursion P xs
each-first is P known [] [] h = tt
each-first is P known [] (y ∷ ys) h = absurd h
each-first is P known (x ∷ xs) [] h = absurd h
each-first is P known (x ∷ xs) (y ∷ ys) h = (known x y h.0, each-first is P known xs ys h.1)

-- each of the steps of a block
each-step : {X : Type 0} (does : X → List ValueType → Doing → Type 0) (P : X → Type 0) → ((x : X) (locals : List ValueType) (doing : Doing) → does x locals doing → P x) →
    (xs : List X) (locals : List ValueType) (of : Option ValueType) → StepsHaveType does xs locals of → AllByRecursion P xs
each-step does P known [] locals of h = tt
each-step does P known (x ∷ xs) locals of (inl h) = (known x locals (Binds h.0) h.1, each-step does P known xs (h.0 ∷ locals) of h.2)
each-step does P known (x ∷ xs) locals of (inr (inl h)) = (known x locals Runs h.0, each-step does P known xs locals of h.1)
each-step does P known (x ∷ []) locals of (inr (inr h)) = (known x locals (Gives of) h.0, tt)
each-step does P known (x ∷ y ∷ xs) locals of (inr (inr h)) = absurd h.1

-- an item of the first ones of a list
among-first : {X : Type 0} (xs : List X) (n k : ℕ) (x : X) → slice_get (take n xs) k ≡ Some x → slice_get xs k ≡ Some x
among-first xs zero k x e = absurd (cc)
among-first [] (suc n) k x e = absurd (cc)
among-first (y ∷ xs) (suc n) zero x e = e
among-first (y ∷ xs) (suc n) (suc k) x e = among-first xs n k x e

-- ---- expressions and steps

module _ (fs : List CheckedFunction) where
  pub operands-among : (o : Operation) (es : List Typed) → IsTypedAmong fs (typed.Apply o es) → All (IsTypedAmong fs) es
  operands-among o es h =
      let it = open-HasType h.0 (length fs) (typed.Apply o es) (opened.Apply o es) (typed.rolls-Apply o es) h.2 h.3 h.4 in
      All-from_recursion (IsTypedAmong fs) es
      (each-first (λ (e : Typed) (t : ValueType). HasType h.0 (length fs) e h.2 (Some t)) (IsTypedAmong fs) (λ e t has. (h.0, h.1, h.2, Some t, has)) es it.0 it.1)

  pub operation-among : (o : Operation) (es : List Typed) → IsTypedAmong fs (typed.Apply o es) → AppliesAmong fs o
  operation-among o es h =
      let it = open-HasType h.0 (length fs) (typed.Apply o es) (opened.Apply o es) (typed.rolls-Apply o es) h.2 h.3 h.4 in
      (h.0, h.1, it.0, h.3, it.2)

  -- expressions of one type
  all-among : (d : Checked) → AreFunctions d fs → (locals : List ValueType) (of : Option ValueType) (es : List Typed) → AllByRecursion (λ e. HasType d (length fs) e locals of) es → All (IsTypedAmong fs) es
  all-among d are locals of es has =
      All-weaker (λ e. HasType d (length fs) e locals of) (IsTypedAmong fs) (λ e h. (d, are, locals, of, h)) es (All-from_recursion (λ e. HasType d (length fs) e locals of) es has)

  pub conditions-among : (cs bs : List Typed) → IsTypedAmong fs (typed.If cs bs) → All (IsTypedAmong fs) cs
  conditions-among cs bs h =
      let it = open-HasType h.0 (length fs) (typed.If cs bs) (opened.If cs bs) (typed.rolls-If cs bs) h.2 h.3 h.4 in
      all-among h.0 h.1 h.2 (Some (bits 1)) cs it.0

  pub bodies-among : (cs bs : List Typed) → IsTypedAmong fs (typed.If cs bs) → All (IsTypedAmong fs) bs
  bodies-among cs bs h =
      let it = open-HasType h.0 (length fs) (typed.If cs bs) (opened.If cs bs) (typed.rolls-If cs bs) h.2 h.3 h.4 in
      all-among h.0 h.1 h.2 h.3 bs it.1

  pub steps-among : (steps : List BlockStep) → IsTypedAmong fs (typed.Block steps) → All (IsStepAmong fs) steps
  steps-among steps h =
      let it = open-HasType h.0 (length fs) (typed.Block steps) (opened.Block steps) (typed.rolls-Block steps) h.2 h.3 h.4 in
      All-from_recursion (IsStepAmong fs) steps (each-step (StepHasType h.0 (length fs)) (IsStepAmong fs) (λ s locals doing has. (h.0, h.1, locals, doing, has)) steps h.2 h.3 it)

  module _ (d : Checked) (are : AreFunctions d fs) (v : Typed) (locals : List ValueType) where
    let_value : (doing : Doing) → StepDoes {X = BlockStep} (HasType d (length fs)) (opened.Let v) locals doing → IsTypedAmong fs v
    let_value (Binds of) has = (d, are, locals, Some of, has)
    let_value Runs has = absurd has
    let_value (Gives of) has = absurd has

    do_value : (doing : Doing) → StepDoes {X = BlockStep} (HasType d (length fs)) (opened.Do v) locals doing → IsTypedAmong fs v
    do_value (Binds of) has = absurd has
    do_value Runs has = (d, are, locals, has.0, has.1)
    do_value (Gives of) has = absurd has

    give_value : (doing : Doing) → StepDoes {X = BlockStep} (HasType d (length fs)) (opened.Give v) locals doing → IsTypedAmong fs v
    give_value (Binds of) has = absurd has
    give_value Runs has = absurd has
    give_value (Gives of) has = (d, are, locals, of, has)

  pub let-among : (v : Typed) → IsStepAmong fs (step.Let v) → IsTypedAmong fs v
  let-among v h = let_value h.0 h.1 v h.2 h.3 (open-step h.0 (length fs) (step.Let v) (opened.Let v) (step.rolls-Let v) h.2 h.3 h.4)

  pub do-among : (v : Typed) → IsStepAmong fs (step.Do v) → IsTypedAmong fs v
  do-among v h = do_value h.0 h.1 v h.2 h.3 (open-step h.0 (length fs) (step.Do v) (opened.Do v) (step.rolls-Do v) h.2 h.3 h.4)

  pub give-among : (v : Typed) → IsStepAmong fs (step.Give v) → IsTypedAmong fs v
  give-among v h = give_value h.0 h.1 v h.2 h.3 (open-step h.0 (length fs) (step.Give v) (opened.Give v) (step.rolls-Give v) h.2 h.3 h.4)

  -- ---- calls

  pub called-among : (number : ℕ) → AppliesAmong fs (operation.Call number) → number < length fs
  called-among number h = h.4.1

  pub body-among : (number : ℕ) (f : CheckedFunction) → AppliesAmong fs (operation.Call number) → slice_get fs number ≡ Some f → IsTypedAmong (take number fs) f.body
  body-among number f h at =
      let is = h.1 number f at in
      let within = slice_get_within fs number f at in
      let count : length (take number fs) ≡ number = length-take-le number fs (omega (arith, within)) in
      (h.0, λ k g below. h.1 k g (among-first fs number k g below), reverse f.parameters, f.result, subst (λ n. HasType h.0 n f.body (reverse f.parameters) f.result) (sym count) is.body)

-- the body of a rule
pub rule-among : (d : Checked) (body : Typed) → IsTypedDesign d → HasType d (length d.functions) body [] None → IsTypedAmong d.functions body
rule-among d body h has = (d, h.functions, [], None, has)
