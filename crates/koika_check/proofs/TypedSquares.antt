-- What is well typed has at most 16,384 squares for each unit of its weight.
use Rattle.std.proofs.Common.{◌≡◌, ℕ, zero, suc, ◌+◌, ◌*◌, ◌<◌, ◌≤◌, inl, inr, List, [], ◌∷◌, length, get_or, map, sum_by, slice_get, Option, Some, arith, refl, ap, sym, subst}
use Rattle.std.specs.List.{All, AllByRecursion}
use Rattle.std.proofs.Math.Nat.{mul-le-mul_left}
use Rattle.std.proofs.lemmas.List.Sums.{sum_by-cons, sum_by-le}
use Rattle.koika_syntax.specs.declared.operator.BinaryOperator.{BinaryOperator}
use Rattle.koika_syntax.specs.declared.operator.BinaryOperator.TheVariants as binary
use Rattle.koika_types.proofs.Sizes.{sum_by-map}
use Rattle.koika_check.specs.BitWeights.{own_squares, square, squares, squares_if}
use Rattle.koika_check.specs.inner.BitWeights.{step_squares}
use Rattle.koika_check.specs.Sizes as sizes
use Rattle.koika_check.specs.Sizes.{Size, StepSize, operation_size, size_of}
use Rattle.koika_check.specs.inner.Sizes.{size_of_step}
use Rattle.koika_check.specs.Types.{bits}
use Rattle.koika_check.specs.Typing.{Applies, Binds, Doing, Gives, HasType, IsType, IsTypedDesign, Pairwise, PartHasType, Runs, StepDoes, StepsHaveType}
use Rattle.koika_check.specs.inner.Typing.{StepHasType}
use Rattle.koika_check.specs.declared.checked.Checked.{Checked}
use Rattle.koika_check.specs.declared.checked.CheckedFunction.{CheckedFunction}
use Rattle.koika_check.specs.declared.typed.Operation.{Operation}
use Rattle.koika_check.specs.declared.typed.Operation.TheVariants as operation
use Rattle.koika_check.specs.declared.typed.BlockStep.{BlockStep, BlockStep-F, map-BlockStep, roll-BlockStep}
use Rattle.koika_check.specs.declared.typed.BlockStep.TheOpen as opened
use Rattle.koika_check.specs.declared.typed.BlockStep.TheVariants as step
use Rattle.koika_check.specs.declared.typed.Typed.{Typed, Typed-F, ind-Typed, map-Typed, roll-Typed}
use Rattle.koika_check.specs.declared.typed.Typed.TheVariants as typed
use Rattle.koika_check.specs.declared.typed.ValueType.{ValueType}
use Rattle.koika_check.proofs.Equations.{size-Apply, size-Block, size-Constant, size-Do, size-Give, size-If, size-Input, size-Let, size-Local}
use Rattle.koika_check.proofs.Squares.{squares-Apply, squares-Block, squares-Constant, squares-Do, squares-Give, squares-If, squares-Input, squares-Let, squares-Local}
use Rattle.koika_syntax.proofs.TreeParts.{Such}
use Rattle.koika_check.proofs.TypedGrowth.{typed-valid}
use Rattle.koika_check.proofs.TypedSoFar.{declares-whole}
use Rattle.koika_check.proofs.TypedTreeParts.{EachOfStep, EachOfTyped, each_of_step, each_of_typed}
use Rattle.koika_check.proofs.TypingLayers.{open-HasType, open-step}

-- ---- operators

square-few : (w : ℕ) (o : BinaryOperator) → w ≤ 128 → square w o ≤ 16384
square-few w binary.Or le = omega arith
square-few w binary.Xor le = omega arith
square-few w binary.And le = omega arith
square-few w binary.Equal le = omega arith
square-few w binary.NotEqual le = omega arith
square-few w binary.Less le = omega arith
square-few w binary.LessOrEqual le = omega arith
square-few w binary.Greater le = omega arith
square-few w binary.GreaterOrEqual le = omega arith
square-few w binary.Concat le = omega arith
square-few w binary.ShiftLeft le = omega arith
square-few w binary.ShiftRight le = omega arith
square-few w binary.ShiftRightSigned le = omega arith
square-few w binary.Add le = omega arith
square-few w binary.Subtract le = omega arith
square-few w binary.Multiply le =
    let a : w * w ≤ w * 128 = mul-le-mul_left w le in
    omega (arith, a)

chain-few : (os : List BinaryOperator) (w : ℕ) → w ≤ 128 → sum_by (square w) os ≤ length os * 16384
chain-few os w le = sum_by-le (square w) 16384 os (λ k o lt. square-few w (get_or os k o) le)

module _ (d : Checked) (h : IsTypedDesign d) (n : ℕ) (bodies : List ℕ) (weighed : List Size)
    (calls : (number : ℕ) (f : CheckedFunction) → number < n → slice_get d.functions number ≡ Some f → squares_if (slice_get bodies number) ≤ 16384 * (sizes.body_of (slice_get weighed number)).weight) where
  abbrev R : sizes.Rests
  R = record { design = d; bodies = weighed }

  -- ---- operations

  applied-few : (o : Operation) (types : List ValueType) (of : Option ValueType) (ss : List Size) (s : ℕ) → AllByRecursion (IsType d) types → Applies d n o types of → s ≤ 16384 * sizes.weights ss →
      s + own_squares bodies o ≤ 16384 * (operation_size R o ss).weight
  applied-few (operation.Chain operators width) [] of ss s valid a few = absurd a
  applied-few (operation.Chain operators width) (t ∷ rest) of ss s valid a few =
      let own = chain-few operators width (omega (arith, a.4, valid.0.1)) in
      omega (arith, few, own)
  applied-few (operation.Call number) types of ss s valid a few = let body = calls number a.0 a.1 a.2 in omega (arith, few, body)
  applied-few (operation.Unary operators) types of ss s valid a few = omega (arith, few)
  applied-few (operation.Select selections) types of ss s valid a few = omega (arith, few)
  applied-few (operation.Update one) types of ss s valid a few = omega (arith, few)
  applied-few (operation.Struct number) types of ss s valid a few = omega (arith, few)
  applied-few operation.Array types of ss s valid a few = omega (arith, few)
  applied-few operation.Pack types of ss s valid a few = omega (arith, few)
  applied-few (operation.Unpack to) types of ss s valid a few = omega (arith, few)
  applied-few (operation.Extend extension width) types of ss s valid a few = omega (arith, few)
  applied-few (operation.Compare comparison) types of ss s valid a few = omega (arith, few)
  applied-few (operation.Table number) types of ss s valid a few = omega (arith, few)
  applied-few (operation.Host number) types of ss s valid a few = omega (arith, few)
  applied-few (operation.Read port register) types of ss s valid a few = omega (arith, few)
  applied-few (operation.Write port register) types of ss s valid a few = omega (arith, few)
  applied-few operation.Abort types of ss s valid a few = omega (arith, few)

  -- ---- expressions

  abbrev TypedFew : Typed → Type 0
  TypedFew x = (locals : List ValueType) (of : Option ValueType) → All (IsType d) locals → HasType d n x locals of → squares bodies x ≤ 16384 * (size_of R x).weight

  abbrev step_weight : StepSize → ℕ
  step_weight s = s.statement + s.value.weight

  -- what a step binds is a value
  abbrev ValidDoing : Doing → Type 0
  ValidDoing (Binds of) = IsType d of
  ValidDoing doing = Unit {0}

  abbrev StepFew : BlockStep → Type 0
  StepFew x = (locals : List ValueType) (doing : Doing) → All (IsType d) locals → StepHasType d n x locals doing → ValidDoing doing × (step_squares bodies x ≤ 16384 * step_weight (size_of_step R x))

  few-cons : {X : Type 0} (f g : X → ℕ) (x : X) (xs : List X) → f x ≤ 16384 * g x → sum_by f xs ≤ 16384 * sum_by g xs → sum_by f (x ∷ xs) ≤ 16384 * sum_by g (x ∷ xs)
  few-cons f g x xs one rest = omega (arith, one, rest, sum_by-cons f x xs, sum_by-cons g x xs)

  abbrev weight_of : Typed → ℕ
  weight_of x = (size_of R x).weight

  operands-few : (xs : List Typed) (ts : List ValueType) (locals : List ValueType) → AllByRecursion TypedFew xs → All (IsType d) locals → Pairwise (λ x t. HasType d n x locals (Some t)) xs ts →
      AllByRecursion (IsType d) ts × (sum_by (squares bodies) xs ≤ 16384 * sum_by weight_of xs)
  operands-few [] [] locals each types are = (tt, omega arith)
  operands-few [] (t ∷ ts) locals each types are = absurd are
  operands-few (x ∷ xs) [] locals each types are = absurd are
  operands-few (x ∷ xs) (t ∷ ts) locals each types are =
      let rest = operands-few xs ts locals each.1 types are.1 in (
        (typed-valid d (declares-whole d h) n x locals (Some t) types are.0, rest.0),
        few-cons (squares bodies) weight_of x xs (each.0 locals (Some t) types are.0) rest.1,
      )

  all-few : (xs : List Typed) (locals : List ValueType) (of : Option ValueType) → AllByRecursion TypedFew xs → All (IsType d) locals → AllByRecursion (λ x. HasType d n x locals of) xs →
      sum_by (squares bodies) xs ≤ 16384 * sum_by weight_of xs
  all-few [] locals of each types are = omega arith
  all-few (x ∷ xs) locals of each types are = few-cons (squares bodies) weight_of x xs (each.0 locals of types are.0) (all-few xs locals of each.1 types are.1)

  bound_too : (locals : List ValueType) (t : ValueType) → All (IsType d) locals → IsType d t → All (IsType d) (t ∷ locals)
  bound_too locals t types valid zero b lt = valid
  bound_too locals t types valid (suc k) b lt = types k b (omega (arith, lt))

  abbrev weight_of_step : BlockStep → ℕ
  weight_of_step x = step_weight (size_of_step R x)

  steps-few : (xs : List BlockStep) (locals : List ValueType) (of : Option ValueType) → AllByRecursion StepFew xs → All (IsType d) locals → StepsHaveType (StepHasType d n) xs locals of →
      sum_by (step_squares bodies) xs ≤ 16384 * sum_by weight_of_step xs
  steps-few [] locals of each types are = omega arith
  steps-few (x ∷ xs) locals of each types (inl are) =
      let one = each.0 locals (Binds are.0) types are.1 in
      few-cons (step_squares bodies) weight_of_step x xs one.1 (steps-few xs (are.0 ∷ locals) of each.1 (bound_too locals are.0 types one.0) are.2)
  steps-few (x ∷ xs) locals of each types (inr (inl are)) =
      few-cons (step_squares bodies) weight_of_step x xs (each.0 locals Runs types are.0).1 (steps-few xs locals of each.1 types are.1)
  steps-few (x ∷ []) locals of each types (inr (inr are)) = few-cons (step_squares bodies) weight_of_step x [] (each.0 locals (Gives of) types are.0).1 (omega arith)
  steps-few (x ∷ y ∷ xs) locals of each types (inr (inr are)) = absurd are.1

  weights-map : (xs : List Typed) → sizes.weights (map (size_of R) xs) ≡ sum_by weight_of xs
  weights-map xs = sum_by-map (λ (s : Size). s.weight) (size_of R) xs

  -- an expression whose squares and size are known
  known : (x y : Typed) (k : ℕ) (s : Size) → x ≡ y → squares bodies y ≡ k → size_of R y ≡ s → k ≤ 16384 * s.weight → squares bodies x ≤ 16384 * (size_of R x).weight
  known x y k s e ek es few = subst (λ (z : Typed). squares bodies z ≤ 16384 * (size_of R z).weight) (sym e) (omega (arith, ek, ap (λ (z : Size). z.weight) es, few))

  part-few : (x : Typed-F BlockStep Typed) → EachOfTyped StepFew TypedFew x → (locals : List ValueType) (of : Option ValueType) → All (IsType d) locals → PartHasType d n (StepHasType d n) (HasType d n) x locals of →
      squares bodies (roll-Typed x) ≤ 16384 * (size_of R (roll-Typed x)).weight
  part-few (opened.Constant v) each locals of types has = known _ (typed.Constant v) _ _ (typed.rolls-Constant v) (squares-Constant bodies v) (size-Constant R v) (omega arith)
  part-few (opened.Local index) each locals of types has = known _ (typed.Local index) _ _ (typed.rolls-Local index) (squares-Local bodies index) (size-Local R index) (omega arith)
  part-few (opened.Input number) each locals of types has = known _ (typed.Input number) _ _ (typed.rolls-Input number) (squares-Input bodies number) (size-Input R number) (omega arith)
  part-few (opened.Apply o operands) each locals of types has =
      let parts = operands-few operands has.0 locals each types has.1 in
      known _ (typed.Apply o operands) _ _ (typed.rolls-Apply o operands) (squares-Apply bodies o operands) (size-Apply R o operands)
      (applied-few o has.0 of (map (size_of R) operands) (sum_by (squares bodies) operands) parts.0 has.2 (omega (arith, parts.1, weights-map operands)))
  part-few (opened.If conditions arms) each locals of types has =
      let first = all-few conditions locals (Some (bits 1)) each.0 types has.0 in
      let second = all-few arms locals of each.1 types has.1 in
      known _ (typed.If conditions arms) _ _ (typed.rolls-If conditions arms) (squares-If bodies conditions arms) (size-If R conditions arms)
      (omega (arith, first, second, weights-map conditions, weights-map arms))
  part-few (opened.Block steps) each locals of types has =
      let few = steps-few steps locals of each types has in
      let total : sum_by step_weight (map (size_of_step R) steps) ≡ sum_by weight_of_step steps = sum_by-map step_weight (size_of_step R) steps in
      known _ (typed.Block steps) _ _ (typed.rolls-Block steps) (squares-Block bodies steps) (size-Block R steps) (omega (arith, few, total))

  typed_layer : (x : Typed-F BlockStep Typed) (y : Typed-F (Such StepFew) (Such TypedFew)) → map-Typed (Such StepFew) (Such TypedFew) BlockStep Typed (λ e. e.0) (λ e. e.0) y ≡ x → TypedFew (roll-Typed x)
  typed_layer x y same locals of types has = part-few x (subst (EachOfTyped StepFew TypedFew) same (each_of_typed StepFew TypedFew y)) locals of types (open-HasType d n (roll-Typed x) x refl locals of has)

  known-step : (x y : BlockStep) (v : Typed) (s : StepSize) → x ≡ y → step_squares bodies y ≡ squares bodies v → size_of_step R y ≡ s → s.value ≡ size_of R v → squares bodies v ≤ 16384 * (size_of R v).weight →
      step_squares bodies x ≤ 16384 * step_weight (size_of_step R x)
  known-step x y v s e ek es ev few =
      subst (λ (z : BlockStep). step_squares bodies z ≤ 16384 * step_weight (size_of_step R z)) (sym e) (omega (arith, ek, ap step_weight es, ap (λ (z : Size). z.weight) ev, few))

  step-few : (x : BlockStep-F BlockStep Typed) → EachOfStep StepFew TypedFew x → (locals : List ValueType) (doing : Doing) → All (IsType d) locals → StepDoes (HasType d n) x locals doing →
      ValidDoing doing × (step_squares bodies (roll-BlockStep x) ≤ 16384 * step_weight (size_of_step R (roll-BlockStep x)))
  step-few (opened.Let v) each locals (Binds of) types has =
      (typed-valid d (declares-whole d h) n v locals (Some of) types has, known-step _ (step.Let v) v _ (step.rolls-Let v) (squares-Let bodies v) (size-Let R v) refl (each locals (Some of) types has))
  step-few (opened.Let v) each locals Runs types has = absurd has
  step-few (opened.Let v) each locals (Gives of) types has = absurd has
  step-few (opened.Do v) each locals (Binds of) types has = absurd has
  step-few (opened.Do v) each locals Runs types has = (tt, known-step _ (step.Do v) v _ (step.rolls-Do v) (squares-Do bodies v) (size-Do R v) refl (each locals has.0 types has.1))
  step-few (opened.Do v) each locals (Gives of) types has = absurd has
  step-few (opened.Give v) each locals (Binds of) types has = absurd has
  step-few (opened.Give v) each locals Runs types has = absurd has
  step-few (opened.Give v) each locals (Gives of) types has = (tt, known-step _ (step.Give v) v _ (step.rolls-Give v) (squares-Give bodies v) (size-Give R v) refl (each locals of types has))

  step_layer : (x : BlockStep-F BlockStep Typed) (y : BlockStep-F (Such StepFew) (Such TypedFew)) → map-BlockStep (Such StepFew) (Such TypedFew) BlockStep Typed (λ e. e.0) (λ e. e.0) y ≡ x → StepFew (roll-BlockStep x)
  step_layer x y same locals doing types has = step-few x (subst (EachOfStep StepFew TypedFew) same (each_of_step StepFew TypedFew y)) locals doing types (open-step d n (roll-BlockStep x) x refl locals doing has)

  pub typed-few : (x : Typed) (locals : List ValueType) (of : Option ValueType) → All (IsType d) locals → HasType d n x locals of → squares bodies x ≤ 16384 * (size_of R x).weight
  typed-few = ind-Typed StepFew TypedFew step_layer typed_layer
