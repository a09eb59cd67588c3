-- Well typed expressions are never stuck, and come to values of their types.
use Rattle.std.proofs.Common.{◌≡◌, ℕ, zero, suc, ◌<◌, ◌^◌, inl, inr, List, [], ◌∷◌, length, map, nat_eq, if◌then◌else◌, Option, Some, None, slice_get, slice_index_or, option_map, arith, refl, ap, sym, subst, ◌∙◌}
use Rattle.std.specs.List.{AllByRecursion}
use Rattle.std.proofs.lemmas.Option.{slice_get-get_or, slice_get-map, slice_get_within}
use Rattle.kw_bits.specs.BitVector.{BitVector}
use Rattle.kw_bits.specs.Laws.{HasWidth}
use Rattle.koika_types.specs.Values.{packed}
use Rattle.koika_types.specs.declared.value.Value.{Value}
use Rattle.typed_core.specs.Evaluation.{Ports, ◌>>=◌, comes_to, unit}
use Rattle.typed_core.specs.Fits.{PortsFit}
use Rattle.typed_core.specs.Widths.{HaveWidths}
use Rattle.typed_core.specs.declared.outcome.Stopped.{Stopped}
use Rattle.koika_check.specs.Meaning.{Meaning, RuleSetting, StepMeaning, apply, choose, gives, in_turn, input_as, meaning, number_by, step_step, steps_in_turn, typed_step, with_value}
use Rattle.koika_check.specs.Types.{bits}
use Rattle.koika_check.specs.Typing.{AreArms, Binds, Doing, Gives, HasType, IsInput, IsTypedDesign, Pairwise, PartHasType, Runs, StepDoes, StepsHaveType}
use Rattle.koika_check.specs.inner.Typing.{StepHasType}
use Rattle.koika_check.specs.declared.checked.Checked.{Checked}
use Rattle.koika_check.specs.declared.checked.CheckedFunction.{CheckedFunction}
use Rattle.koika_check.specs.declared.checked.Input.{Input}
use Rattle.koika_check.specs.declared.typed.BlockStep.{BlockStep, BlockStep-F, fold-BlockStep, fold-roll-BlockStep, map-BlockStep, roll-BlockStep}
use Rattle.koika_check.specs.declared.typed.BlockStep.TheOpen as opened
use Rattle.koika_check.specs.declared.typed.Typed.{Typed, Typed-F, fold-roll-Typed, ind-Typed, map-Typed, roll-Typed}
use Rattle.koika_check.specs.declared.typed.ValueType.{ValueType}
use Rattle.koika_syntax.proofs.TreeParts.{Such}
use Rattle.koika_check.proofs.TypedTreeParts.{EachOfStep, EachOfTyped, each_of_step, each_of_typed}
use Rattle.koika_check.proofs.TypingLayers.{open-HasType, open-step}
use Rattle.koika_lower.specs.inner.Expressions.{step_meaning}
use Rattle.koika_lower.specs.Guarded.{Cause, by_bit, guarded_apply, guarded_choose, guarded_in_turn, guarded_meaning, guarded_part, guarded_step, unpacked_if, with_some}
use Rattle.koika_lower.specs.Lowering.{typed_input_widths, register_widths}
use Rattle.koika_lower.proofs.Agreements.{Agrees, AllHave, Has, HasIf, agrees-bind, agrees-bit, agrees-known, agrees-value}
use Rattle.koika_lower.proofs.Constructs.{bits-width}
use Rattle.koika_lower.proofs.GuardedOperations.{Body, applies-fine, comes, guarded_one, plain_setting, unpacks}
use Rattle.koika_lower.proofs.GuardedParts.{bits-have}
use Rattle.koika_lower.proofs.Values.{all-get}

-- ---- one layer

unfoldable guarded_steps : RuleSetting Cause → BlockStep → StepMeaning Cause
guarded_steps g = fold-BlockStep (StepMeaning Cause) (Meaning Cause) guarded_step (guarded_part g)

pub meaning-roll : (s : RuleSetting Stopped) (x : Typed-F BlockStep Typed) → meaning s (roll-Typed x) ≡ typed_step s (map-Typed BlockStep Typed (StepMeaning Stopped) (Meaning Stopped) (step_meaning s) (meaning s) x)
unfolding meaning step_meaning
meaning-roll s x = fold-roll-Typed (StepMeaning Stopped) (Meaning Stopped) step_step (typed_step s) x

step-roll : (s : RuleSetting Stopped) (x : BlockStep-F BlockStep Typed) → step_meaning s (roll-BlockStep x) ≡ step_step (map-BlockStep BlockStep Typed (StepMeaning Stopped) (Meaning Stopped) (step_meaning s) (meaning s) x)
unfolding meaning step_meaning
step-roll s x = fold-roll-BlockStep (StepMeaning Stopped) (Meaning Stopped) step_step (typed_step s) x

guarded-roll : (g : RuleSetting Cause) (x : Typed-F BlockStep Typed) → guarded_meaning g (roll-Typed x) ≡ guarded_part g (map-Typed BlockStep Typed (StepMeaning Cause) (Meaning Cause) (guarded_steps g) (guarded_meaning g) x)
unfolding guarded_meaning guarded_steps
guarded-roll g x = fold-roll-Typed (StepMeaning Cause) (Meaning Cause) guarded_step (guarded_part g) x

guarded-step-roll : (g : RuleSetting Cause) (x : BlockStep-F BlockStep Typed) → guarded_steps g (roll-BlockStep x) ≡ guarded_step (map-BlockStep BlockStep Typed (StepMeaning Cause) (Meaning Cause) (guarded_steps g) (guarded_meaning g) x)
unfolding guarded_meaning guarded_steps
guarded-step-roll g x = fold-roll-BlockStep (StepMeaning Cause) (Meaning Cause) guarded_step (guarded_part g) x

-- the value of a name
value-at : (d : Checked) (values : List Value) (types : List ValueType) (index : ℕ) (t : ValueType) → AllHave d values types → slice_get types index ≡ Some t → (v : Value) × (slice_get values index ≡ Some v) × Has d v t
value-at d values [] index t have e = absurd (cc)
value-at d [] (u ∷ types) index t have e = absurd have
value-at d (v ∷ values) (u ∷ types) zero t have e = let same : u ≡ t = cc in (v, refl, subst (Has d v) same have.0)
value-at d (v ∷ values) (u ∷ types) (suc index) t have e = value-at d values types index t have.1 e

module _ (d : Checked) (is : IsTypedDesign d) (n : ℕ) (inputs : List BitVector) (ports : Ports Stopped) (wide : HaveWidths (typed_input_widths d) inputs) (fit : PortsFit (register_widths d) ports)
    (bodies : List (Meaning Stopped)) (guarded : List (Meaning Cause))
    (callable : (number : ℕ) (f : CheckedFunction) → number < n → slice_get d.functions number ≡ Some f → Body d f (slice_get bodies number) (slice_get guarded number)) where
  abbrev regs : List ℕ
  regs = register_widths d

  abbrev s : RuleSetting Stopped
  s = plain_setting d is n inputs ports fit bodies guarded callable

  abbrev g : RuleSetting Cause
  g = guarded_one d is n inputs ports fit bodies guarded callable

  -- expressions and steps that are never stuck and come to values of their types
  abbrev Fine : Typed → Type 0
  Fine e = (types : List ValueType) (of : Option ValueType) (values : List Value) → AllHave d values types → HasType d n e types of →
      Agrees regs (HasIf d of) (meaning s e values) (guarded_meaning g e values)

  abbrev AfterFine : Doing → List ValueType → Option ValueType → Meaning Stopped → Meaning Cause → Type 0
  AfterFine (Binds t) types of after behind = (values : List Value) → AllHave d values (t ∷ types) → Agrees regs (HasIf d of) (after values) (behind values)
  AfterFine Runs types of after behind = (values : List Value) → AllHave d values types → Agrees regs (HasIf d of) (after values) (behind values)
  AfterFine (Gives given) types of after behind = of ≡ given

  abbrev FineStep : BlockStep → Type 0
  FineStep x = (types : List ValueType) (doing : Doing) (of : Option ValueType) (values : List Value) (after : Meaning Stopped) (behind : Meaning Cause) → AllHave d values types → StepHasType d n x types doing →
      AfterFine doing types of after behind → Agrees regs (HasIf d of) (step_meaning s x after values) (guarded_steps g x behind values)

  -- ---- lists of expressions

  turns-fine : (es : List Typed) (ts types : List ValueType) (values : List Value) → AllByRecursion Fine es → AllHave d values types → Pairwise (λ e t. HasType d n e types (Some t)) es ts →
      Agrees regs (λ vs. AllHave d vs ts) (in_turn (map (meaning s) es) values) (guarded_in_turn (map (guarded_meaning g) es) values)
  turns-fine [] [] types values fine have are = agrees-value regs (λ vs. AllHave d vs []) [] tt
  turns-fine [] (t ∷ ts) types values fine have are = absurd are
  turns-fine (e ∷ es) [] types values fine have are = absurd are
  turns-fine (e ∷ es) (t ∷ ts) types values fine have are =
      agrees-known d regs (λ vs. AllHave d vs (t ∷ ts)) t (λ v. in_turn (map (meaning s) es) values >>= λ vs. comes_to (with_value v vs))
      (λ v. guarded_in_turn (map (guarded_meaning g) es) values >>= λ vs. comes_to (v ∷ vs))
      (λ v has. agrees-bind regs (λ vs. AllHave d vs ts) (λ vs. AllHave d vs (t ∷ ts)) (λ vs. comes_to (v ∷ vs)) (λ vs. comes_to (v ∷ vs))
      (λ vs all. agrees-value regs (λ vs. AllHave d vs (t ∷ ts)) (v ∷ vs) (has, all))
      (in_turn (map (meaning s) es) values) (guarded_in_turn (map (guarded_meaning g) es) values) (turns-fine es ts types values fine.1 have are.1))
      (meaning s e values) (guarded_meaning g e values) (fine.0 types (Some t) values have are.0)

  choice-fine : (cs bs : List Typed) (types : List ValueType) (of : Option ValueType) (values : List Value) → AllByRecursion Fine cs → AllByRecursion Fine bs → AllHave d values types →
      AllByRecursion (λ e. HasType d n e types (Some (bits 1))) cs → AllByRecursion (λ e. HasType d n e types of) bs → AreArms (length cs) (length bs) of →
      Agrees regs (HasIf d of) (choose (map (meaning s) cs) (map (meaning s) bs) values) (guarded_choose (map (guarded_meaning g) cs) (map (guarded_meaning g) bs) values)
  choice-fine [] [] types of values fc fb have hc hb (inl more) = absurd (omega (arith, more))
  choice-fine [] [] types of values fc fb have hc hb (inr same) = subst (λ (o : Option ValueType). Agrees regs (HasIf d o) (comes_to None) (comes_to None)) (sym same.1) (agrees-value regs (HasIf d None) None tt)
  choice-fine [] (b ∷ []) types of values fc fb have hc hb arms = fb.0 types of values have hb.0
  choice-fine [] (b ∷ c ∷ bs) types of values fc fb have hc hb (inl more) = absurd (omega (arith, more))
  choice-fine [] (b ∷ c ∷ bs) types of values fc fb have hc hb (inr same) = absurd (omega (arith, same.0))
  choice-fine (c ∷ cs) [] types of values fc fb have hc hb (inl more) = absurd (omega (arith, more))
  choice-fine (c ∷ cs) [] types of values fc fb have hc hb (inr same) = absurd (omega (arith, same.0))
  choice-fine (c ∷ cs) (b ∷ bs) types of values fc fb have hc hb arms =
      agrees-known d regs (HasIf d of) (bits 1) (λ v. if nat_eq (number_by v) 1 then meaning s b values else choose (map (meaning s) cs) (map (meaning s) bs) values)
      (λ v. by_bit (packed v).number (guarded_meaning g b values) (guarded_choose (map (guarded_meaning g) cs) (map (guarded_meaning g) bs) values))
      (λ v has. agrees-bit regs (HasIf d of) (packed v).number (meaning s b values) (choose (map (meaning s) cs) (map (meaning s) bs) values)
      (guarded_meaning g b values) (guarded_choose (map (guarded_meaning g) cs) (map (guarded_meaning g) bs) values) (one-bit v has)
      (fb.0 types of values have hb.0) (choice-fine cs bs types of values fc.1 fb.1 have hc.1 hb.1 (fewer (length cs) (length bs) of arms)))
      (meaning s c values) (guarded_meaning g c values) (fc.0 types (Some (bits 1)) values have hc.0)
    where
      one-bit : (v : Value) → Has d v (bits 1) → (packed v).number < 2
      one-bit v has =
          let h = bits-width d (bits 1) 1 (packed v) refl (bits-have d is v (bits 1) has) in
          omega (arith, subst (λ k. (packed v).number < 2 ^ k) h.1 h.0.in_range)

      fewer : (k j : ℕ) (of : Option ValueType) → AreArms (suc k) (suc j) of → AreArms k j of
      fewer k j of (inl more) = inl (omega (arith, more))
      fewer k j of (inr same) = inr (omega (arith, same.0), same.1)

  steps-fine : (xs : List BlockStep) (types : List ValueType) (of : Option ValueType) (values : List Value) → AllByRecursion FineStep xs → AllHave d values types → StepsHaveType (StepHasType d n) xs types of →
      Agrees regs (HasIf d of) (steps_in_turn (map (step_meaning s) xs) values) (steps_in_turn (map (guarded_steps g) xs) values)
  steps-fine [] types of values fine have are = subst (λ (o : Option ValueType). Agrees regs (HasIf d o) (comes_to None) (comes_to None)) (sym are) (agrees-value regs (HasIf d None) None tt)
  steps-fine (x ∷ xs) types of values fine have (inl h) =
      fine.0 types (Binds h.0) of values (steps_in_turn (map (step_meaning s) xs)) (steps_in_turn (map (guarded_steps g) xs)) have h.1
      (λ more all. steps-fine xs (h.0 ∷ types) of more fine.1 all h.2)
  steps-fine (x ∷ xs) types of values fine have (inr (inl h)) =
      fine.0 types Runs of values (steps_in_turn (map (step_meaning s) xs)) (steps_in_turn (map (guarded_steps g) xs)) have h.0 (λ more all. steps-fine xs types of more fine.1 all h.1)
  steps-fine (x ∷ xs) types of values fine have (inr (inr h)) =
      fine.0 types (Gives of) of values (steps_in_turn (map (step_meaning s) xs)) (steps_in_turn (map (guarded_steps g) xs)) have h.0 refl

  -- ---- one layer of an expression

  input-fine : (number : ℕ) (i : Input) (of : Option ValueType) → slice_get d.inputs number ≡ Some i → of ≡ Some i.of →
      Agrees regs (HasIf d of) (input_as d (slice_get d.inputs number) (slice_get inputs number))
      (with_some (λ (i : Input). with_some (λ x. with_some gives (unpacked_if d i.of x)) (slice_get inputs number)) (slice_get d.inputs number))
  input-fine number i of at same =
      let ok = all-get (IsInput d) d.inputs number i is.inputs at in
      let held : slice_get (typed_input_widths d) number ≡ Some i.width = slice_get-map (λ (x : Input). x.width) d.inputs number ∙ ap (option_map (λ (x : Input). x.width)) at in
      let x : BitVector = slice_index_or inputs number unit in
      let width : HasWidth x i.width = wide.each number i.width held in
      let found : slice_get inputs number ≡ Some x = slice_get-get_or inputs number unit (subst (λ k. number < k) (sym wide.count) (slice_get_within (typed_input_widths d) number i.width held)) in
      subst (λ (o : Option Input). Agrees regs (HasIf d of) (input_as d o (slice_get inputs number)) (with_some (λ (i : Input). with_some (λ x. with_some gives (unpacked_if d i.of x)) (slice_get inputs number)) o)) (sym at)
      (subst (λ (o : Option BitVector). Agrees regs (HasIf d of) (input_as d (Some i) o) (with_some (λ x. with_some gives (unpacked_if d i.of x)) o)) (sym found)
      (unpacks d is n inputs ports fit bodies guarded callable of i.of x same ok.of (width.0, width.1 ∙ ok.width)))

  part-fine : (x : Typed-F BlockStep Typed) (types : List ValueType) (of : Option ValueType) (values : List Value) → EachOfTyped FineStep Fine x → AllHave d values types → PartHasType d n (StepHasType d n) (HasType d n) x types of →
      Agrees regs (HasIf d of) (typed_step s (map-Typed BlockStep Typed (StepMeaning Stopped) (Meaning Stopped) (step_meaning s) (meaning s) x) values)
      (guarded_part g (map-Typed BlockStep Typed (StepMeaning Cause) (Meaning Cause) (guarded_steps g) (guarded_meaning g) x) values)
  part-fine (opened.Constant v) types of values fine have h = comes d is n inputs ports fit bodies guarded callable of h.0 v h.3 (h.1, h.2)
  part-fine (opened.Local index) types of values fine have h =
      let at = value-at d values types index h.0 have h.1 in
      subst (λ (o : Option Value). Agrees regs (HasIf d of) (comes_to o) (with_some gives o)) (sym at.1) (comes d is n inputs ports fit bodies guarded callable of h.0 at.0 h.2 at.2)
  part-fine (opened.Input number) types of values fine have h = input-fine number h.0 of h.1 h.2
  part-fine (opened.Apply o operands) types of values fine have h =
      agrees-bind regs (λ vs. AllHave d vs h.0) (HasIf d of) (apply s o) (guarded_apply g o)
      (λ vs all. applies-fine d is n inputs ports fit bodies guarded callable o h.0 of vs all h.2)
      (in_turn (map (meaning s) operands) values) (guarded_in_turn (map (guarded_meaning g) operands) values) (turns-fine operands h.0 types values fine have h.1)
  part-fine (opened.If conditions bodies) types of values fine have h = choice-fine conditions bodies types of values fine.0 fine.1 have h.0 h.1 h.2
  part-fine (opened.Block steps) types of values fine have h = steps-fine steps types of values fine have h

  typed_layer : (x : Typed-F BlockStep Typed) (y : Typed-F (Such FineStep) (Such Fine)) → map-Typed (Such FineStep) (Such Fine) BlockStep Typed (λ e. e.0) (λ e. e.0) y ≡ x → Fine (roll-Typed x)
  typed_layer x y same types of values have has =
      let it = part-fine x types of values (subst (EachOfTyped FineStep Fine) same (each_of_typed FineStep Fine y)) have (open-HasType d n (roll-Typed x) x refl types of has) in
      subst (λ (m : Meaning Stopped). Agrees regs (HasIf d of) (m values) (guarded_meaning g (roll-Typed x) values)) (sym (meaning-roll s x))
      (subst (λ (m : Meaning Cause). Agrees regs (HasIf d of) (typed_step s (map-Typed BlockStep Typed (StepMeaning Stopped) (Meaning Stopped) (step_meaning s) (meaning s) x) values) (m values)) (sym (guarded-roll g x)) it)

  -- ---- and of a step

  step-fine : (x : BlockStep-F BlockStep Typed) (types : List ValueType) (doing : Doing) (of : Option ValueType) (values : List Value) (after : Meaning Stopped) (behind : Meaning Cause) → EachOfStep FineStep Fine x → AllHave d values types →
      StepDoes (HasType d n) x types doing → AfterFine doing types of after behind →
      Agrees regs (HasIf d of) (step_step (map-BlockStep BlockStep Typed (StepMeaning Stopped) (Meaning Stopped) (step_meaning s) (meaning s) x) after values)
      (guarded_step (map-BlockStep BlockStep Typed (StepMeaning Cause) (Meaning Cause) (guarded_steps g) (guarded_meaning g) x) behind values)
  step-fine (opened.Let v) types (Binds t) of values after behind fine have h next =
      agrees-known d regs (HasIf d of) t (λ bound. after (with_value bound values)) (λ bound. behind (bound ∷ values)) (λ v has. next (v ∷ values) (has, have))
      (meaning s v values) (guarded_meaning g v values) (fine types (Some t) values have h)
  step-fine (opened.Let v) types Runs of values after behind fine have h next = absurd h
  step-fine (opened.Let v) types (Gives given) of values after behind fine have h next = absurd h
  step-fine (opened.Do v) types (Binds t) of values after behind fine have h next = absurd h
  step-fine (opened.Do v) types Runs of values after behind fine have h next =
      agrees-bind regs (HasIf d h.0) (HasIf d of) (λ _. after values) (λ _. behind values) (λ w has. next values have) (meaning s v values) (guarded_meaning g v values) (fine types h.0 values have h.1)
  step-fine (opened.Do v) types (Gives given) of values after behind fine have h next = absurd h
  step-fine (opened.Give v) types (Binds t) of values after behind fine have h next = absurd h
  step-fine (opened.Give v) types Runs of values after behind fine have h next = absurd h
  step-fine (opened.Give v) types (Gives given) of values after behind fine have h next =
      subst (λ (o : Option ValueType). Agrees regs (HasIf d o) (meaning s v values) (guarded_meaning g v values)) (sym next) (fine types given values have h)

  step_layer : (x : BlockStep-F BlockStep Typed) (y : BlockStep-F (Such FineStep) (Such Fine)) → map-BlockStep (Such FineStep) (Such Fine) BlockStep Typed (λ e. e.0) (λ e. e.0) y ≡ x → FineStep (roll-BlockStep x)
  step_layer x y same types doing of values after behind have has next =
      let it = step-fine x types doing of values after behind (subst (EachOfStep FineStep Fine) same (each_of_step FineStep Fine y)) have (open-step d n (roll-BlockStep x) x refl types doing has) next in
      subst (λ (m : StepMeaning Stopped). Agrees regs (HasIf d of) (m after values) (guarded_steps g (roll-BlockStep x) behind values)) (sym (step-roll s x))
      (subst (λ (m : StepMeaning Cause). Agrees regs (HasIf d of) (step_step (map-BlockStep BlockStep Typed (StepMeaning Stopped) (Meaning Stopped) (step_meaning s) (meaning s) x) after values) (m behind values)) (sym (guarded-step-roll g x)) it)

  -- where these functions may be called
  pub fine : (e : Typed) (types : List ValueType) (of : Option ValueType) (values : List Value) → AllHave d values types → HasType d n e types of → Agrees regs (HasIf d of) (meaning s e values) (guarded_meaning g e values)
  fine = ind-Typed FineStep Fine step_layer typed_layer
