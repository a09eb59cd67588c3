-- What is well typed, opened by one layer.
use Rattle.std.proofs.Common.{◌≡◌, ℕ, ◌⊎◌, List, [], ◌∷◌, length, map, replicate, Some, Option, refl, ap, sym, subst, ◌∙◌}
use Rattle.std.specs.List.{AllByRecursion}
use Rattle.std.proofs.lemmas.List.{length-map}
use Rattle.koika_types.specs.declared.value.Value.{Value}
use Rattle.koika_types.specs.declared.value.Value.TheOpen.{Value-F}
use Rattle.koika_types.specs.declared.value.Value.TheFolds.{map-Value, rec-roll-Value}
use Rattle.koika_types.specs.declared.value.Value.TheViews.{roll-Value}
use Rattle.koika_check.specs.Composites.{fields_of}
use Rattle.koika_check.specs.Types.{array, bits, of_base}
use Rattle.koika_check.specs.Typing.{Applies, AreArms, Binds, Doing, Gives, HasType, IsEnd, IsOf, Pairwise, PartHasType, PartIsOf, Runs, StepDoes, StepsHaveType}
use Rattle.koika_check.specs.inner.Typing.{StepHasType}
use Rattle.koika_check.specs.declared.checked.Checked.{Checked}
use Rattle.koika_check.specs.declared.checked.CheckedField.{CheckedField}
use Rattle.koika_check.specs.declared.typed.BaseType.TheVariants as base
use Rattle.koika_check.specs.declared.typed.BlockStep.{BlockStep, BlockStep-F, rec-roll-BlockStep, map-BlockStep, roll-BlockStep}
use Rattle.koika_check.specs.declared.typed.BlockStep.TheOpen as opened
use Rattle.koika_check.specs.declared.typed.Typed.{Typed, Typed-F, rec-roll-Typed, map-Typed, roll-Typed}
use Rattle.koika_check.specs.declared.typed.ValueType.{ValueType}

Pairwise-map : {X Y Z : Type 0} (is : Y → Z → Type 0) (f : X → Y) (xs : List X) (zs : List Z) → Pairwise (λ x. is (f x)) xs zs ≡ Pairwise is (map f xs) zs
Pairwise-map is f [] [] = refl
Pairwise-map is f [] (z ∷ zs) = refl
Pairwise-map is f (x ∷ xs) [] = refl
Pairwise-map is f (x ∷ xs) (z ∷ zs) = ap (λ rest. is (f x) z × rest) (Pairwise-map is f xs zs)

each-map : {X Y : Type 0} (is : Y → Type 0) (f : X → Y) (xs : List X) → AllByRecursion (λ x. is (f x)) xs ≡ AllByRecursion is (map f xs)
each-map is f [] = refl
each-map is f (x ∷ xs) = ap (λ rest. is (f x) × rest) (each-map is f xs)

end-map : {X Y : Type 0} (f : X → Y) (xs : List X) → IsEnd xs ≡ IsEnd (map f xs)
end-map f [] = refl
end-map f (x ∷ xs) = refl

steps-map : {X Y : Type 0} (does : Y → List ValueType → Doing → Type 0) (f : X → Y) (xs : List X) (locals : List ValueType) (of : Option ValueType) →
    StepsHaveType (λ x. does (f x)) xs locals of ≡ StepsHaveType does (map f xs) locals of
steps-map does f [] locals of = refl
steps-map does f (x ∷ xs) locals of = λ i.
    ((bound : ValueType) × does (f x) locals (Binds bound) × steps-map does f xs (bound ∷ locals) of i) ⊎
    (does (f x) locals Runs × steps-map does f xs locals of i) ⊎
    (does (f x) locals (Gives of) × end-map f xs i)

module _ {X X' Y Y' : Type 0} (f : X → X') (g : Y → Y') (is : Y' → List ValueType → Option ValueType → Type 0) where
  StepDoes-map : (s : BlockStep-F X Y) (locals : List ValueType) (doing : Doing) → StepDoes (λ y. is (g y)) s locals doing ≡ StepDoes is (map-BlockStep X Y X' Y' f g s) locals doing
  StepDoes-map (opened.Let v) locals (Binds of) = refl
  StepDoes-map (opened.Let v) locals Runs = refl
  StepDoes-map (opened.Let v) locals (Gives of) = refl
  StepDoes-map (opened.Do v) locals (Binds of) = refl
  StepDoes-map (opened.Do v) locals Runs = refl
  StepDoes-map (opened.Do v) locals (Gives of) = refl
  StepDoes-map (opened.Give v) locals (Binds of) = refl
  StepDoes-map (opened.Give v) locals Runs = refl
  StepDoes-map (opened.Give v) locals (Gives of) = refl

  PartHasType-map : (d : Checked) (n : ℕ) (does : X' → List ValueType → Doing → Type 0) (x : Typed-F X Y) (locals : List ValueType) (of : Option ValueType) →
      PartHasType d n (λ y. does (f y)) (λ y. is (g y)) x locals of ≡ PartHasType d n does is (map-Typed X Y X' Y' f g x) locals of
  PartHasType-map d n does (opened.Constant v) locals of = refl
  PartHasType-map d n does (opened.Local index) locals of = refl
  PartHasType-map d n does (opened.Input number) locals of = refl
  PartHasType-map d n does (opened.Apply o operands) locals of = λ i.
      (types : List ValueType) × Pairwise-map (λ y t. is y locals (Some t)) g operands types i × Applies d n o types of
  PartHasType-map d n does (opened.If conditions bodies) locals of = λ i.
      each-map (λ y. is y locals (Some (bits 1))) g conditions i × each-map (λ y. is y locals of) g bodies i ×
      AreArms (sym (length-map conditions g) i) (sym (length-map bodies g) i) of
  PartHasType-map d n does (opened.Block steps) locals of = steps-map does f steps locals of

module _ (d : Checked) (n : ℕ) where
  whole : (x : Typed-F BlockStep Typed) → HasType d n (roll-Typed x) ≡ PartHasType d n (StepHasType d n) (HasType d n) x
  whole x = rec-roll-Typed (List ValueType → Doing → Type 0) (List ValueType → Option ValueType → Type 0)
      (λ X Y s w does is. StepDoes is) (λ X Y s w does is. PartHasType d n does is)
      (λ X Y v w k h y i locals of. PartHasType-map v w h d n k y locals of i) x

  step_whole : (x : BlockStep-F BlockStep Typed) → StepHasType d n (roll-BlockStep x) ≡ StepDoes (HasType d n) x
  step_whole x = rec-roll-BlockStep (List ValueType → Doing → Type 0) (List ValueType → Option ValueType → Type 0)
      (λ X Y s w does is. StepDoes is) (λ X Y s w does is. PartHasType d n does is)
      (λ X Y v w k h y i locals doing. StepDoes-map v w h y locals doing i) x

  -- an expression, and a step, of which the outermost part is known
  pub open-HasType : (t : Typed) (x : Typed-F BlockStep Typed) → roll-Typed x ≡ t → (locals : List ValueType) (of : Option ValueType) →
      HasType d n t locals of → PartHasType d n (StepHasType d n) (HasType d n) x locals of
  open-HasType t x e locals of h = subst (λ (is : List ValueType → Option ValueType → Type 0). is locals of) (ap (HasType d n) (sym e) ∙ whole x) h

  pub close-HasType : (t : Typed) (x : Typed-F BlockStep Typed) → roll-Typed x ≡ t → (locals : List ValueType) (of : Option ValueType) →
      PartHasType d n (StepHasType d n) (HasType d n) x locals of → HasType d n t locals of
  close-HasType t x e locals of h = subst (λ (is : List ValueType → Option ValueType → Type 0). is locals of) (sym (ap (HasType d n) (sym e) ∙ whole x)) h

  pub open-step : (t : BlockStep) (x : BlockStep-F BlockStep Typed) → roll-BlockStep x ≡ t → (locals : List ValueType) (doing : Doing) →
      StepHasType d n t locals doing → StepDoes (HasType d n) x locals doing
  open-step t x e locals doing h = subst (λ (is : List ValueType → Doing → Type 0). is locals doing) (ap (StepHasType d n) (sym e) ∙ step_whole x) h

  pub close-step : (t : BlockStep) (x : BlockStep-F BlockStep Typed) → roll-BlockStep x ≡ t → (locals : List ValueType) (doing : Doing) →
      StepDoes (HasType d n) x locals doing → StepHasType d n t locals doing
  close-step t x e locals doing h = subst (λ (is : List ValueType → Doing → Type 0). is locals doing) (sym (ap (StepHasType d n) (sym e) ∙ step_whole x)) h

-- ---- values

module _ (d : Checked) where
  layer : {X Y : Type 0} (is : Y → ValueType → Type 0) (f : X → Y) (x : Value-F X) (t : ValueType) → PartIsOf d (λ p. is (f p)) x t ≡ PartIsOf d is (map-Value X Y f x) t
  layer is f (Value-F.Number b) t = refl
  layer is f (Value-F.Member n b) t = refl
  layer is f (Value-F.Fields n xs) t = λ i. (t ≡ of_base (base.Struct n)) × Pairwise-map is f xs (map (λ (f : CheckedField). f.of) (fields_of d n)) i
  layer {X} {Y} is f (Value-F.Items xs) t = λ i.
      (item : ValueType) × (t ≡ array (sym (length-map xs f) i) item) × all item i
    where
      all : (item : ValueType) → Pairwise (λ x. is (f x)) xs (replicate (length xs) item) ≡ Pairwise is (map f xs) (replicate (length (map f xs)) item)
      all item = Pairwise-map is f xs (replicate (length xs) item) ∙ ap (λ n. Pairwise is (map f xs) (replicate n item)) (sym (length-map xs f))

  value_whole : (x : Value-F Value) → IsOf d (roll-Value x) ≡ PartIsOf d (IsOf d) x
  value_whole x = rec-roll-Value (ValueType → Type 0) (λ X w is. PartIsOf d is) (λ X v k y i t. layer k v y t i) x

  pub open-IsOf : (v : Value) (x : Value-F Value) → roll-Value x ≡ v → (t : ValueType) → IsOf d v t → PartIsOf d (IsOf d) x t
  open-IsOf v x e t h = subst (λ (is : ValueType → Type 0). is t) (ap (IsOf d) (sym e) ∙ value_whole x) h

  pub close-IsOf : (v : Value) (x : Value-F Value) → roll-Value x ≡ v → (t : ValueType) → PartIsOf d (IsOf d) x t → IsOf d v t
  close-IsOf v x e t h = subst (λ (is : ValueType → Type 0). is t) (sym (ap (IsOf d) (sym e) ∙ value_whole x)) h
