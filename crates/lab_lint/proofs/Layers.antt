-- The part that an expression is, by the parts of its own parts.
use Rattle.std.proofs.Common.{◌≡◌, ℕ, List, append-nil, append_assoc, map, ap, sym, ◌∙◌}
use Rattle.koika_types.specs.declared.value.Value.{Value}
use Rattle.koika_check.specs.declared.typed.Operation.{Operation}
use Rattle.koika_check.specs.declared.typed.BlockStep.{BlockStep, BlockStep-F, fold-roll-BlockStep, map-BlockStep, roll-BlockStep}
use Rattle.koika_check.specs.declared.typed.BlockStep.TheOpen as opened
use Rattle.koika_check.specs.declared.typed.BlockStep.TheVariants as step
use Rattle.koika_check.specs.declared.typed.Typed.{Typed, Typed-F, fold-roll-Typed, map-Typed, roll-Typed}
use Rattle.koika_check.specs.declared.typed.Typed.TheVariants as typed
use Rattle.lab_lint.specs.Occurrences.{Part, choice, in_order, in_turn, nothing, one, own, part_of, step_step, typed_step}
use Rattle.lab_lint.specs.inner.Occurrences.{part_of_step}
use Rattle.lab_lint.specs.declared.occurrence.Occurrence.TheVariants as occurrence

pub part-roll : (bodies : List Part) (x : Typed-F BlockStep Typed) → part_of bodies (roll-Typed x) ≡ typed_step bodies (map-Typed BlockStep Typed Part Part (part_of_step bodies) (part_of bodies) x)
unfolding part_of part_of_step
part-roll bodies x = fold-roll-Typed Part Part step_step (typed_step bodies) x

pub step-roll : (bodies : List Part) (x : BlockStep-F BlockStep Typed) → part_of_step bodies (roll-BlockStep x) ≡ step_step (map-BlockStep BlockStep Typed Part Part (part_of_step bodies) (part_of bodies) x)
unfolding part_of part_of_step
step-roll bodies x = fold-roll-BlockStep Part Part step_step (typed_step bodies) x

pub part-Constant : (bodies : List Part) (v : Value) → part_of bodies (typed.Constant v) ≡ nothing
part-Constant bodies v = ap (part_of bodies) (sym (typed.rolls-Constant v)) ∙ part-roll bodies (opened.Constant v)

pub part-Local : (bodies : List Part) (index : ℕ) → part_of bodies (typed.Local index) ≡ nothing
part-Local bodies index = ap (part_of bodies) (sym (typed.rolls-Local index)) ∙ part-roll bodies (opened.Local index)

pub part-Input : (bodies : List Part) (number : ℕ) → part_of bodies (typed.Input number) ≡ one (occurrence.Input number)
part-Input bodies number = ap (part_of bodies) (sym (typed.rolls-Input number)) ∙ part-roll bodies (opened.Input number)

pub part-Apply : (bodies : List Part) (o : Operation) (operands : List Typed) → part_of bodies (typed.Apply o operands) ≡ in_order (in_turn (map (part_of bodies) operands)) (own bodies o)
part-Apply bodies o operands = ap (part_of bodies) (sym (typed.rolls-Apply o operands)) ∙ part-roll bodies (opened.Apply o operands)

pub part-If : (bodies : List Part) (conditions arms : List Typed) → part_of bodies (typed.If conditions arms) ≡ choice (map (part_of bodies) conditions) (map (part_of bodies) arms)
part-If bodies conditions arms = ap (part_of bodies) (sym (typed.rolls-If conditions arms)) ∙ part-roll bodies (opened.If conditions arms)

pub part-Block : (bodies : List Part) (steps : List BlockStep) → part_of bodies (typed.Block steps) ≡ in_turn (map (part_of_step bodies) steps)
part-Block bodies steps = ap (part_of bodies) (sym (typed.rolls-Block steps)) ∙ part-roll bodies (opened.Block steps)

pub part-Let : (bodies : List Part) (v : Typed) → part_of_step bodies (step.Let v) ≡ part_of bodies v
part-Let bodies v = ap (part_of_step bodies) (sym (step.rolls-Let v)) ∙ step-roll bodies (opened.Let v)

pub part-Do : (bodies : List Part) (v : Typed) → part_of_step bodies (step.Do v) ≡ part_of bodies v
part-Do bodies v = ap (part_of_step bodies) (sym (step.rolls-Do v)) ∙ step-roll bodies (opened.Do v)

pub part-Give : (bodies : List Part) (v : Typed) → part_of_step bodies (step.Give v) ≡ part_of bodies v
part-Give bodies v = ap (part_of_step bodies) (sym (step.rolls-Give v)) ∙ step-roll bodies (opened.Give v)

pub ruleset layers = (part-Constant, part-Local, part-Input, part-Apply, part-If, part-Block, part-Let, part-Do, part-Give)

-- and the lists of occurrences that come of it
pub ruleset listing = (part-Constant, part-Local, part-Input, part-Apply, part-If, part-Block, part-Let, part-Do, part-Give, append-nil, append_assoc)
