-- What an action evaluates to, after Kôika's semantics (Bourgeat et al., PLDI 2020), given what the ports answer to
-- reads and writes. It says nothing of registers or of a scheduler.
use Rattle.std.specs.Prelude.{ℕ, List, [], ◌∷◌, ◌++◌, if◌then◌else◌, slice_index_or, slice_get, nat_eq, Option, Some, None}
use Rattle.kw_bits.specs.BitVector.{BitVector}
use Rattle.kw_bits.specs.Operators as op
use Rattle.kw_bits.specs.Host as host
use Rattle.typed_core.specs.declared.access.Event.{Event}
use Rattle.typed_core.specs.declared.action.OneOp.{OneOp}
use Rattle.typed_core.specs.declared.action.OneOp.TheVariants.{Not, Neg, RedAnd, RedOr, RedXor}
use Rattle.typed_core.specs.declared.action.TwoOp.{TwoOp}
use Rattle.typed_core.specs.declared.action.TwoOp.TheVariants.{And, Or, Xor, Add, Sub, Mul, Sll, Srl, Sra, EqBits, Ult, Ulte, Slt, Slte, Concat}
use Rattle.typed_core.specs.declared.action.Action.{Action}
use Rattle.typed_core.specs.declared.action.Action.TheVariants as action
use Rattle.kw_bits.specs.declared.host.HostSpec.{HostSpec}
use Rattle.kw_bits.specs.declared.table.TableSpec.{TableSpec}

-- ---- parts of a rule's body

-- how a part ends: with a value, or with what stops the rule
pub data Ending (V S : Type 0) : Type 0 where
  Value : (value : V) → Ending V S
  Stop : (cause : S) → Ending V S

-- the events so far and how the part ends
pub record Progress (V S : Type 0) : Type 0 where
  pub events : List Event
  pub ending : Ending V S

-- a part goes on from the events before it
abbrev pub Evaluation : Type 0 → Type 0 → Type 0
Evaluation V S = List Event → Progress V S

-- evaluates to the value
abbrev pub comes_to : {V S : Type 0} → V → Evaluation V S
comes_to value events = record { events = events; ending = Value value }

-- stops the rule
abbrev pub stops : {V S : Type 0} → S → Evaluation V S
stops cause events = record { events = events; ending = Stop cause }

-- adds the event and evaluates to the value
abbrev pub notes : {V S : Type 0} → Event → V → Evaluation V S
notes event value events = record { events = events ++ event ∷ []; ending = Value value }

-- what goes on with the value, where there is one
abbrev pub bind : {V W S : Type 0} → List Event → Ending V S → (V → Evaluation W S) → Progress W S
bind events (Value value) next = next value events
bind events (Stop cause) next = record { events = events; ending = Stop cause }

-- where the first part has a value, the second goes on with it
infixl 10 ◌>>=◌
abbrev pub ◌>>=◌ : {V W S : Type 0} → Evaluation V S → (V → Evaluation W S) → Evaluation W S
(first >>= next) events = bind (first events).events (first events).ending next

-- ---- what actions are evaluated in

-- what actions ask of the outside
pub record Externs : Type 0 where
  pub tables : List TableSpec
  pub hosts : List HostSpec

-- what is the same for all rules of a cycle, and all through it
pub record Environment : Type 0 where
  pub externs : Externs
  pub inputs : List BitVector

-- what a read at a port of a register evaluates to, what a write of a value there does, and what an abort stops the
-- rule with
pub record Ports (S : Type 0) : Type 0 where
  pub read : ℕ → ℕ → Evaluation BitVector S
  pub write : ℕ → ℕ → BitVector → Evaluation BitVector S
  pub abort : S

-- ---- actions

-- the value of a part that is run for its effect: no bits at all
abbrev pub unit : BitVector
unit = record { width = 0; number = 0 }

-- the operators
abbrev pub apply_one : OneOp → BitVector → BitVector
apply_one Not a = op.not a
apply_one Neg a = op.neg a
apply_one RedAnd a = op.redand a
apply_one RedOr a = op.redor a
apply_one RedXor a = op.redxor a

-- the value of an operator on two operands
abbrev pub apply_two : TwoOp → BitVector → BitVector → BitVector
apply_two And a b = op.and a b
apply_two Or a b = op.or a b
apply_two Xor a b = op.xor a b
apply_two Add a b = op.add a b
apply_two Sub a b = op.sub a b
apply_two Mul a b = op.mul a b
apply_two Sll a b = op.sll a b
apply_two Srl a b = op.srl a b
apply_two Sra a b = op.sra a b
apply_two EqBits a b = op.eq_bits a b
apply_two Ult a b = op.ult a b
apply_two Ulte a b = op.ulte a b
apply_two Slt a b = op.slt a b
apply_two Slte a b = op.slte a b
apply_two Concat a b = op.concat a b

-- the entry of the table of this number, by the number of the vector
abbrev pub entry_of : Option TableSpec → BitVector → BitVector
entry_of None x = unit
entry_of (Some table) x = slice_index_or table.entries x.number unit

-- what the host function of this number answers
abbrev pub answer_of : Option HostSpec → BitVector → BitVector
answer_of None x = unit
answer_of (Some spec) x = host.value spec.kind x

-- the first where the condition is 1, the second where it is 0
abbrev pub choose : {V S : Type 0} → BitVector → Evaluation V S → Evaluation V S → Evaluation V S
choose condition first second = if nat_eq condition.number 0 then second else first

-- What an action evaluates to, with these values of the names that are bound round it, the innermost first. Parts are
-- evaluated from left to right, a write's value before the write, and of an `If` one arm.
abbrev pub evaluate : {S : Type 0} → Environment → Ports S → Action → List BitVector → Evaluation BitVector S
evaluate env ports action.Unit locals = comes_to unit
evaluate env ports (action.Const value) locals = comes_to value
evaluate env ports (action.Local name) locals = comes_to (slice_index_or locals name unit)
evaluate env ports (action.Input input) locals = comes_to (slice_index_or env.inputs input unit)
evaluate env ports (action.One' operator p a) locals = evaluate env ports a locals >>= λ x. comes_to (apply_one operator x)
evaluate env ports (action.Two' operator p a q b) locals = evaluate env ports a locals >>= λ x. evaluate env ports b locals >>= λ y. comes_to (apply_two operator x y)
evaluate env ports (action.Slice' p a upper lower) locals = evaluate env ports a locals >>= λ x. comes_to (op.slice x upper lower)
evaluate env ports (action.Zext' p a width) locals = evaluate env ports a locals >>= λ x. comes_to (op.zext x width)
evaluate env ports (action.Sext' p a width) locals = evaluate env ports a locals >>= λ x. comes_to (op.sext x width)
evaluate env ports (action.Table' table p a) locals = evaluate env ports a locals >>= λ x. comes_to (entry_of (slice_get env.externs.tables table) x)
evaluate env ports (action.Host' host p a) locals = evaluate env ports a locals >>= λ x. comes_to (answer_of (slice_get env.externs.hosts host) x)
evaluate env ports (action.Let' p value q body) locals = evaluate env ports value locals >>= λ x. evaluate env ports body (x ∷ locals)
evaluate env ports (action.If' p condition q first r second) locals = evaluate env ports condition locals >>= λ x. choose x (evaluate env ports first locals) (evaluate env ports second locals)
evaluate env ports (action.Seq' p first q second) locals = evaluate env ports first locals >>= λ _. evaluate env ports second locals
evaluate env ports (action.Read port register) locals = ports.read port register
evaluate env ports (action.Write' port register p a) locals = evaluate env ports a locals >>= λ value. ports.write port register value
evaluate env ports action.Abort locals = stops ports.abort
