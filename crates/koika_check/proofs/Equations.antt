-- The size of an expression, by the sizes of its parts.
use Rattle.std.proofs.Common.{◌≡◌, ℕ, List, length, map, ap, sym, ◌∙◌}
use Rattle.std.proofs.lemmas.List.{length-map}
use Rattle.koika_types.specs.declared.value.Value.{Value}
use Rattle.koika_check.specs.Sizes.{Rests, Size, StepSize, arms_size, both, heavier, one_deeper, operation_size, size, size_of, step_step, steps_size, typed_step}
use Rattle.koika_check.specs.inner.Sizes.{size_of_step}
use Rattle.koika_check.specs.declared.typed.Operation.{Operation}
use Rattle.koika_check.specs.declared.typed.BlockStep.{BlockStep, fold-roll-BlockStep}
use Rattle.koika_check.specs.declared.typed.BlockStep.TheOpen as opened
use Rattle.koika_check.specs.declared.typed.BlockStep.TheVariants as step
use Rattle.koika_check.specs.declared.typed.Typed.{Typed, fold-roll-Typed}
use Rattle.koika_check.specs.declared.typed.Typed.TheVariants as typed

pub size-Constant : (r : Rests) (value : Value) → size_of r (typed.Constant value) ≡ size 1 1
unfolding size_of
size-Constant r value = ap (size_of r) (sym (typed.rolls-Constant value)) ∙ fold-roll-Typed StepSize Size step_step (typed_step r) (opened.Constant value)

pub size-Local : (r : Rests) (index : ℕ) → size_of r (typed.Local index) ≡ size 1 1
unfolding size_of
size-Local r index = ap (size_of r) (sym (typed.rolls-Local index)) ∙ fold-roll-Typed StepSize Size step_step (typed_step r) (opened.Local index)

pub size-Input : (r : Rests) (number : ℕ) → size_of r (typed.Input number) ≡ size 1 1
unfolding size_of
size-Input r number = ap (size_of r) (sym (typed.rolls-Input number)) ∙ fold-roll-Typed StepSize Size step_step (typed_step r) (opened.Input number)

pub size-Apply : (r : Rests) (o : Operation) (operands : List Typed) → size_of r (typed.Apply o operands) ≡ operation_size r o (map (size_of r) operands)
unfolding size_of
size-Apply r o operands = ap (size_of r) (sym (typed.rolls-Apply o operands)) ∙ fold-roll-Typed StepSize Size step_step (typed_step r) (opened.Apply o operands)

if_parts : (r : Rests) (conditions bodies : List Typed) →
    size_of r (typed.If conditions bodies) ≡ heavier (length (map (size_of r) conditions)) (both (one_deeper (map (size_of r) conditions)) (arms_size (length (map (size_of r) conditions)) (map (size_of r) bodies)))
unfolding size_of
if_parts r conditions bodies = ap (size_of r) (sym (typed.rolls-If conditions bodies)) ∙ fold-roll-Typed StepSize Size step_step (typed_step r) (opened.If conditions bodies)

pub size-If : (r : Rests) (conditions bodies : List Typed) →
    size_of r (typed.If conditions bodies) ≡ heavier (length conditions) (both (one_deeper (map (size_of r) conditions)) (arms_size (length conditions) (map (size_of r) bodies)))
size-If r conditions bodies =
    if_parts r conditions bodies ∙ ap (λ n. heavier n (both (one_deeper (map (size_of r) conditions)) (arms_size n (map (size_of r) bodies)))) (length-map conditions (size_of r))

pub size-Block : (r : Rests) (steps : List BlockStep) → size_of r (typed.Block steps) ≡ heavier 1 (steps_size (map (size_of_step r) steps))
unfolding size_of size_of_step
size-Block r steps = ap (size_of r) (sym (typed.rolls-Block steps)) ∙ fold-roll-Typed StepSize Size step_step (typed_step r) (opened.Block steps)

pub size-Let : (r : Rests) (value : Typed) → size_of_step r (step.Let value) ≡ record { statement = 1; value = size_of r value }
unfolding size_of size_of_step
size-Let r value = ap (size_of_step r) (sym (step.rolls-Let value)) ∙ fold-roll-BlockStep StepSize Size step_step (typed_step r) (opened.Let value)

pub size-Do : (r : Rests) (value : Typed) → size_of_step r (step.Do value) ≡ record { statement = 1; value = size_of r value }
unfolding size_of size_of_step
size-Do r value = ap (size_of_step r) (sym (step.rolls-Do value)) ∙ fold-roll-BlockStep StepSize Size step_step (typed_step r) (opened.Do value)

pub size-Give : (r : Rests) (value : Typed) → size_of_step r (step.Give value) ≡ record { statement = 0; value = size_of r value }
unfolding size_of size_of_step
size-Give r value = ap (size_of_step r) (sym (step.rolls-Give value)) ∙ fold-roll-BlockStep StepSize Size step_step (typed_step r) (opened.Give value)

pub ruleset equations = (size-Constant, size-Local, size-Input, size-Apply, size-If, size-Block, size-Let, size-Do, size-Give)
