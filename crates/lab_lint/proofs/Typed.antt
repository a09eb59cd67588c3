-- The accesses in well typed bodies are at ports that there are.
use Rattle.std.proofs.Common.{◌≡◌, ◌⊎◌, inl, inr, ℕ, zero, suc, ◌<◌, List, [], ◌∷◌, ◌++◌, length, map, Option, Some, None, append_assoc, refl, ap, sym, subst, ◌∙◌}
use Rattle.std.specs.Prelude.{reverse, slice_get}
use Rattle.std.specs.List.{AllByRecursion}
use Rattle.std.proofs.lemmas.Option.{slice_get_within}
use Rattle.typed_core.specs.Valid.{IsPort}
use Rattle.koika_check.specs.Types.{bits}
use Rattle.koika_check.specs.Typing.{Applies, Binds, Doing, Gives, HasType, IsTypedDesign, Pairwise, PartHasType, Runs, StepDoes, StepsHaveType}
use Rattle.koika_check.specs.inner.Typing.{StepHasType}
use Rattle.koika_check.specs.declared.checked.Checked.{Checked}
use Rattle.koika_check.specs.declared.checked.CheckedFunction.{CheckedFunction}
use Rattle.koika_check.specs.declared.checked.CheckedRule.{CheckedRule}
use Rattle.koika_check.specs.declared.typed.Operation.{Operation}
use Rattle.koika_check.specs.declared.typed.Operation.TheVariants as operation
use Rattle.koika_check.specs.declared.typed.BlockStep.{BlockStep, BlockStep-F, map-BlockStep, roll-BlockStep}
use Rattle.koika_check.specs.declared.typed.BlockStep.TheOpen as opened
use Rattle.koika_check.specs.declared.typed.Typed.{Typed, Typed-F, ind-Typed, map-Typed, roll-Typed}
use Rattle.koika_check.specs.declared.typed.ValueType.{ValueType}
use Rattle.koika_syntax.proofs.TreeParts.{Such}
use Rattle.koika_check.proofs.TypedTreeParts.{EachOfStep, EachOfTyped, each_of_step, each_of_typed}
use Rattle.koika_lower.proofs.GuardedBodies.{get-middle}
use Rattle.koika_lower.proofs.Values.{all-get}
use Rattle.koika_check.proofs.TypingLayers.{open-HasType, open-step}
use Rattle.lab_lint.specs.Occurrences as parts
use Rattle.lab_lint.specs.Occurrences.{Part, body_if, choice, in_turn, own, part_if, part_of, rule_part}
use Rattle.lab_lint.specs.inner.Occurrences.{part_of_step}
use Rattle.lab_lint.specs.declared.occurrence.Occurrence.{Occurrence}
use Rattle.lab_lint.specs.declared.occurrence.Occurrence.TheVariants as occurrence
use Rattle.lab_lint.proofs.Among.{Among, all-append, among-all}
use Rattle.lab_lint.proofs.Bodies.{bodies-all}
use Rattle.lab_lint.proofs.Layers.{part-roll, step-roll}

abbrev pub IsRight : Checked → Occurrence → Type 0
IsRight d (occurrence.Access a) = IsPort a.port × (a.register < length d.registers)
IsRight d o = Unit {0}

abbrev pub AreRight : Checked → Part → Type 0
AreRight d p = AllByRecursion (IsRight d) p.all

module _ (d : Checked) (n : ℕ) (ps : List Part) (bodies : (number : ℕ) → AreRight d (part_if (slice_get ps number))) where
  abbrev Right : Typed → Type 0
  Right e = (types : List ValueType) (of : Option ValueType) → HasType d n e types of → AreRight d (part_of ps e)

  abbrev RightStep : BlockStep → Type 0
  RightStep x = (types : List ValueType) (doing : Doing) → StepHasType d n x types doing → AreRight d (part_of_step ps x)

  turns-right : (es : List Typed) (ts types : List ValueType) → AllByRecursion Right es → Pairwise (λ e t. HasType d n e types (Some t)) es ts → AreRight d (in_turn (map (part_of ps) es))
  turns-right [] ts types right are = tt
  turns-right (e ∷ es) [] types right are = absurd are
  turns-right (e ∷ es) (t ∷ ts) types right are =
      all-append (IsRight d) (part_of ps e).all (in_turn (map (part_of ps) es)).all (right.0 types (Some t) are.0) (turns-right es ts types right.1 are.1)

  choice-right : (cs bs : List Typed) (types : List ValueType) (c of : Option ValueType) → AllByRecursion Right cs → AllByRecursion Right bs →
      AllByRecursion (λ e. HasType d n e types c) cs → AllByRecursion (λ e. HasType d n e types of) bs → AreRight d (choice (map (part_of ps) cs) (map (part_of ps) bs))
  choice-right [] [] types c of rc rb hc hb = tt
  choice-right [] (b ∷ bs) types c of rc rb hc hb = rb.0 types of hb.0
  choice-right (e ∷ cs) [] types c of rc rb hc hb = tt
  choice-right (e ∷ cs) (b ∷ bs) types c of rc rb hc hb =
      all-append (IsRight d) (part_of ps e).all ((part_of ps b).all ++ (choice (map (part_of ps) cs) (map (part_of ps) bs)).all) (rc.0 types c hc.0)
      (all-append (IsRight d) (part_of ps b).all (choice (map (part_of ps) cs) (map (part_of ps) bs)).all (rb.0 types of hb.0) (choice-right cs bs types c of rc.1 rb.1 hc.1 hb.1))

  steps-right : (xs : List BlockStep) (types : List ValueType) (of : Option ValueType) → AllByRecursion RightStep xs → StepsHaveType (StepHasType d n) xs types of → AreRight d (in_turn (map (part_of_step ps) xs))
  steps-right [] types of right are = tt
  steps-right (x ∷ xs) types of right (inl h) =
      all-append (IsRight d) (part_of_step ps x).all (in_turn (map (part_of_step ps) xs)).all (right.0 types (Binds h.0) h.1) (steps-right xs (h.0 ∷ types) of right.1 h.2)
  steps-right (x ∷ xs) types of right (inr (inl h)) =
      all-append (IsRight d) (part_of_step ps x).all (in_turn (map (part_of_step ps) xs)).all (right.0 types Runs h.0) (steps-right xs types of right.1 h.1)
  steps-right (x ∷ []) types of right (inr (inr h)) = all-append (IsRight d) (part_of_step ps x).all [] (right.0 types (Gives of) h.0) tt
  steps-right (x ∷ y ∷ xs) types of right (inr (inr h)) = absurd h.1

  own-right : (o : Operation) (ts : List ValueType) (of : Option ValueType) → Applies d n o ts of → AreRight d (own ps o)
  own-right (operation.Unary operators) ts of h = tt
  own-right (operation.Chain operators width) ts of h = tt
  own-right (operation.Select selections) ts of h = tt
  own-right (operation.Update selection) ts of h = tt
  own-right (operation.Struct number) ts of h = tt
  own-right operation.Array ts of h = tt
  own-right operation.Pack ts of h = tt
  own-right (operation.Unpack to) ts of h = tt
  own-right (operation.Extend extension width) ts of h = tt
  own-right (operation.Compare comparison) ts of h = tt
  own-right (operation.Table number) ts of h = (tt, tt)
  own-right (operation.Host number) ts of h = (tt, tt)
  own-right (operation.Call number) ts of h = bodies number
  own-right (operation.Read port register) [] of h = ((h.1, slice_get_within d.registers register h.0 h.2), tt)
  own-right (operation.Read port register) (t ∷ ts) of h = absurd h
  own-right (operation.Write port register) [] of h = absurd h
  own-right (operation.Write port register) (t ∷ []) of h = ((h.1, slice_get_within d.registers register h.0 h.2), tt)
  own-right (operation.Write port register) (t ∷ u ∷ ts) of h = absurd h
  own-right operation.Abort ts of h = tt

  part-right : (x : Typed-F BlockStep Typed) (types : List ValueType) (of : Option ValueType) → EachOfTyped RightStep Right x → PartHasType d n (StepHasType d n) (HasType d n) x types of →
      AreRight d (parts.typed_step ps (map-Typed BlockStep Typed Part Part (part_of_step ps) (part_of ps) x))
  part-right (opened.Constant v) types of right h = tt
  part-right (opened.Local index) types of right h = tt
  part-right (opened.Input number) types of right h = (tt, tt)
  part-right (opened.Apply o operands) types of right h =
      all-append (IsRight d) (in_turn (map (part_of ps) operands)).all (own ps o).all (turns-right operands h.0 types right h.1) (own-right o h.0 of h.2)
  part-right (opened.If conditions arms) types of right h = choice-right conditions arms types (Some (bits 1)) of right.0 right.1 h.0 h.1
  part-right (opened.Block steps) types of right h = steps-right steps types of right h

  typed_layer : (x : Typed-F BlockStep Typed) (y : Typed-F (Such RightStep) (Such Right)) → map-Typed (Such RightStep) (Such Right) BlockStep Typed (λ e. e.0) (λ e. e.0) y ≡ x → Right (roll-Typed x)
  typed_layer x y same types of has =
      subst (AreRight d) (sym (part-roll ps x)) (part-right x types of (subst (EachOfTyped RightStep Right) same (each_of_typed RightStep Right y)) (open-HasType d n (roll-Typed x) x refl types of has))

  step-right : (x : BlockStep-F BlockStep Typed) (types : List ValueType) (doing : Doing) → EachOfStep RightStep Right x → StepDoes (HasType d n) x types doing →
      AreRight d (parts.step_step (map-BlockStep BlockStep Typed Part Part (part_of_step ps) (part_of ps) x))
  step-right (opened.Let v) types (Binds t) right h = right types (Some t) h
  step-right (opened.Let v) types Runs right h = absurd h
  step-right (opened.Let v) types (Gives of) right h = absurd h
  step-right (opened.Do v) types (Binds t) right h = absurd h
  step-right (opened.Do v) types Runs right h = right types h.0 h.1
  step-right (opened.Do v) types (Gives of) right h = absurd h
  step-right (opened.Give v) types (Binds t) right h = absurd h
  step-right (opened.Give v) types Runs right h = absurd h
  step-right (opened.Give v) types (Gives of) right h = right types of h

  step_layer : (x : BlockStep-F BlockStep Typed) (y : BlockStep-F (Such RightStep) (Such Right)) → map-BlockStep (Such RightStep) (Such Right) BlockStep Typed (λ e. e.0) (λ e. e.0) y ≡ x → RightStep (roll-BlockStep x)
  step_layer x y same types doing has =
      subst (AreRight d) (sym (step-roll ps x)) (step-right x types doing (subst (EachOfStep RightStep Right) same (each_of_step RightStep Right y)) (open-step d n (roll-BlockStep x) x refl types doing has))

  pub expression-right : (e : Typed) (types : List ValueType) (of : Option ValueType) → HasType d n e types of → AreRight d (part_of ps e)
  expression-right = ind-Typed RightStep Right step_layer typed_layer

-- ---- the bodies of functions

abbrev AllRight : Checked → List Part → Type 0
AllRight d = AllByRecursion (AreRight d)

all-at : (d : Checked) (ps : List Part) → AllRight d ps → (number : ℕ) → AreRight d (part_if (slice_get ps number))
all-at d [] all number = tt
all-at d (p ∷ ps) all zero = all.0
all-at d (p ∷ ps) all (suc number) = all-at d ps all.1 number

bodies-right : (d : Checked) → IsTypedDesign d → (fs done : List CheckedFunction) (ps : List Part) → d.functions ≡ done ++ fs → AllRight d ps → AllRight d (parts.bodies_behind ps fs)
bodies-right d is [] done ps e all = all
bodies-right d is (f ∷ fs) done ps e all =
    let n : ℕ = length done in
    let at : slice_get d.functions n ≡ Some f = ap (λ (xs : List CheckedFunction). slice_get xs n) e ∙ get-middle done f fs in
    let ok = is.functions n f at in
    bodies-right d is fs (done ++ f ∷ []) (ps ++ part_of ps f.body ∷ []) (e ∙ sym (append_assoc done (f ∷ []) fs))
    (all-append (AreRight d) ps (part_of ps f.body ∷ []) all (expression-right d n ps (all-at d ps all) f.body (reverse f.parameters) f.result ok.body, tt))

-- the body of an expression of the design, in which all functions may be called
pub body-right : (d : Checked) → IsTypedDesign d → (e : Typed) → HasType d (length d.functions) e [] None → AreRight d (part_of (parts.bodies_behind [] d.functions) e)
body-right d is e has =
    let ps = parts.bodies_behind [] d.functions in
    expression-right d (length d.functions) ps (all-at d ps (bodies-right d is d.functions [] [] refl tt)) e [] None has

-- all of a rule's body, and the rule is one that there is
pub rule-right : (d : Checked) → IsTypedDesign d → (rule : ℕ) (o : Occurrence) → Among o (rule_part d rule).all → IsRight d o × (rule < length d.rules)
unfolding rule_part
rule-right d is rule o h = chosen (slice_get d.rules rule) refl h
  where
    chosen : (r : Option CheckedRule) → slice_get d.rules rule ≡ r → Among o (body_if d r).all → IsRight d o × (rule < length d.rules)
    chosen None at k = absurd k
    chosen (Some r) at k =
        let has = all-get (λ (x : CheckedRule). HasType d (length d.functions) x.body [] None) d.rules rule r is.rules at in
        let whole = subst (λ (ps : List Part). Among o (part_of ps r.body).all) (bodies-all d) k in
        (among-all (IsRight d) o (part_of (parts.bodies_behind [] d.functions) r.body).all (body-right d is r.body has) whole, slice_get_within d.rules rule r at)
