-- What the evaluator is lent, and what its answers stand for.
use Rattle.std.specs.Prelude.{◌≡◌, List, Option, Result, Ok, Err, unwrap_or}
use Rattle.kw_bits.specs.BitVector.{BitVector}
use Rattle.typed_core.specs.Evaluation as core
use Rattle.typed_core.specs.Evaluation.{Progress, Stop, Value, unit}
use Rattle.typed_core.specs.Valid.{Declarations, declarations}
use Rattle.typed_core.specs.declared.access.Event.{Event}
use Rattle.typed_core.specs.declared.outcome.Stopped.{Stopped}
use Rattle.one_rule.specs.declared.evaluation.Environment.{Environment}
use Rattle.one_rule.specs.declared.evaluation.Interrupt.{Interrupt}
use Rattle.one_rule.specs.declared.evaluation.Interrupt.TheVariants as interrupt

-- given what the externs keep
abbrev pub environment_of : {E : Type 0} → (E → core.Externs) → Environment E → core.Environment
environment_of kept env = record { externs = kept env.externs.now; inputs = env.inputs.now }

abbrev pub declarations_of : {E : Type 0} → Environment E → Declarations
declarations_of env = declarations env.design.now

-- the value of a part, which has no bits where it is run for its effect
abbrev pub value_of : Option BitVector → BitVector
value_of value = unwrap_or value unit

-- the answer says what the part evaluates to, and the events after it are those that are stood for; when out of
-- memory it says nothing
abbrev pub Answers : {V : Type 0} → (V → BitVector) → (List Event → Type 0) → Result V Interrupt → Progress BitVector Stopped → Type 0
Answers view stands_for (Ok value) p = stands_for p.events × (p.ending ≡ Value (view value))
Answers view stands_for (Err (interrupt.Stop cause)) p = stands_for p.events × (p.ending ≡ Stop cause)
Answers view stands_for (Err interrupt.NoMemory) p = Unit {0}
