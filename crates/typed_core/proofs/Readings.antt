-- What holds of what all ports answer holds of what actions come to.
use Rattle.std.proofs.Common.{ℕ, Bool, true, false, List, [], ◌∷◌, ◌++◌, sym, ap, ◌∙◌, append-nil, append_assoc, refl}
use Rattle.std.specs.Prelude.{nat_eq, if◌then◌else◌, slice_get}
use Rattle.kw_bits.specs.BitVector.{BitVector}
use Rattle.kw_bits.specs.Operators as op
use Rattle.typed_core.specs.Alone.{alone_ports, is_refused}
use Rattle.typed_core.specs.Evaluation.{answer_of, apply_one, apply_two, bind, comes_to, entry_of, evaluate, Ending, Environment, Evaluation, Ports, Progress, Stop, Value, unit}
use Rattle.typed_core.specs.Fits.{Appends, Continues, PortsAppend}
use Rattle.typed_core.specs.declared.access.Event.{Event}
use Rattle.typed_core.specs.declared.action.Action.{Action}
use Rattle.typed_core.specs.declared.action.Action.TheVariants as action
use Rattle.typed_core.specs.declared.outcome.Stopped.{Stopped}

-- ---- two readings of one action

-- A relation, from the events before on, of what parts come to under two readings. It holds of parts that come to one
-- value at once, it holds of two parts one after another, and it holds of what the ports answer.
pub record Relates {S T : Type 0} (first : Ports S) (second : Ports T) (R : List Event → Progress BitVector S → Progress BitVector T → Type 0) : Type 0 where
  pub value : (events : List Event) (value : BitVector) → R events (record { events = events; ending = Value value }) (record { events = events; ending = Value value })
  pub bind : (events : List Event) (p : Progress BitVector S) (q : Progress BitVector T) (f : BitVector → Evaluation BitVector S) (g : BitVector → Evaluation BitVector T) → R events p q
      → ((value : BitVector) (es : List Event) → R es (f value es) (g value es)) → R events (bind p.events p.ending f) (bind q.events q.ending g)
  pub read : (port register : ℕ) (events : List Event) → R events (first.read port register events) (second.read port register events)
  pub write : (port register : ℕ) (value : BitVector) (events : List Event) → R events (first.write port register value events) (second.write port register value events)
  pub abort : (events : List Event) → R events (record { events = events; ending = Stop first.abort }) (record { events = events; ending = Stop second.abort })

module _ {S T : Type 0} (env : Environment) (first : Ports S) (second : Ports T) (R : List Event → Progress BitVector S → Progress BitVector T → Type 0) (relates : Relates first second R) where
  -- two parts with one value in place of each other, from the same events
  abbrev Related : Evaluation BitVector S → Evaluation BitVector T → Type 0
  Related f g = (events : List Event) → R events (f events) (g events)

  one_more : (f : Evaluation BitVector S) (g : Evaluation BitVector T) (value_of : BitVector → BitVector) → Related f g → (events : List Event) → R events (bind (f events).events (f events).ending (λ x. comes_to (value_of x))) (bind (g events).events (g events).ending (λ x. comes_to (value_of x)))
  one_more f g value_of h events = relates.bind events (f events) (g events) _ _ (h events) (λ x es. relates.value es (value_of x))

  chosen : (is_zero : Bool) (f g : Evaluation BitVector S) (f' g' : Evaluation BitVector T) → Related f f' → Related g g' → Related (if is_zero then g else f) (if is_zero then g' else f')
  chosen true f g f' g' h k = k
  chosen false f g f' g' h k = h

  -- the relation holds of what an action comes to
  pub evaluate_related : (a : Action) (locals : List BitVector) (events : List Event) → R events (evaluate env first a locals events) (evaluate env second a locals events)
  evaluate_related action.Unit locals events = relates.value events unit
  evaluate_related (action.Const value) locals events = relates.value events value
  evaluate_related (action.Local name) locals events = relates.value events _
  evaluate_related (action.Input input) locals events = relates.value events _
  evaluate_related (action.One' operator p a) locals events = one_more _ _ (apply_one operator) (evaluate_related a locals) events
  evaluate_related (action.Two' operator p a q b) locals events =
      relates.bind events _ _ _ _ (evaluate_related a locals events) (λ x es. one_more _ _ (apply_two operator x) (evaluate_related b locals) es)
  evaluate_related (action.Slice' p a upper lower) locals events = one_more _ _ (λ x. op.slice x upper lower) (evaluate_related a locals) events
  evaluate_related (action.Zext' p a width) locals events = one_more _ _ (λ x. op.zext x width) (evaluate_related a locals) events
  evaluate_related (action.Sext' p a width) locals events = one_more _ _ (λ x. op.sext x width) (evaluate_related a locals) events
  evaluate_related (action.Table' table p a) locals events = one_more _ _ (λ x. entry_of (slice_get env.externs.tables table) x) (evaluate_related a locals) events
  evaluate_related (action.Host' host p a) locals events = one_more _ _ (λ x. answer_of (slice_get env.externs.hosts host) x) (evaluate_related a locals) events
  evaluate_related (action.Let' p value q body) locals events =
      relates.bind events _ _ _ _ (evaluate_related value locals events) (λ x es. evaluate_related body (x ∷ locals) es)
  evaluate_related (action.If' p condition q then_do r else_do) locals events =
      relates.bind events _ _ _ _ (evaluate_related condition locals events)
      (λ x es. chosen (nat_eq x.number 0) _ _ _ _ (evaluate_related then_do locals) (evaluate_related else_do locals) es)
  evaluate_related (action.Seq' p before q behind) locals events =
      relates.bind events _ _ _ _ (evaluate_related before locals events) (λ _ es. evaluate_related behind locals es)
  evaluate_related (action.Read port register) locals events = relates.read port register events
  evaluate_related (action.Write' port register p a) locals events =
      relates.bind events _ _ _ _ (evaluate_related a locals events) (λ value es. relates.write port register value es)
  evaluate_related action.Abort locals events = relates.abort events

-- ---- events are only added

pub Continues-self : (events : List Event) → Continues events events
Continues-self events = ([], sym (append-nil events))

pub Continues-trans : (a b c : List Event) → Continues a b → Continues b c → Continues a c
Continues-trans a b c (x, e) (y, f) = (x ++ y, f ∙ ap (λ (s : List Event). s ++ y) e ∙ append_assoc a x y)

pub Continues-bind : {V W S : Type 0} (before events : List Event) (ending : Ending V S) (next : V → Evaluation W S) → Continues before events → ((value : V) → Appends (next value)) → Continues before (bind events ending next).events
Continues-bind before events (Value value) next h k = Continues-trans before events _ h (k value events)
Continues-bind before events (Stop cause) next h k = h

-- at ports that only add events, an action only adds events
pub evaluate_appends : {S : Type 0} (env : Environment) (ports : Ports S) → PortsAppend ports → (a : Action) (locals : List BitVector) → Appends (evaluate env ports a locals)
evaluate_appends {S} env ports appends a locals events = evaluate_related env ports ports R relates a locals events
  where
    R : List Event → Progress BitVector S → Progress BitVector S → Type 0
    R before p q = Continues before p.events

    relates : Relates ports ports R
    relates = record {
      value = λ es value. Continues-self es;
      bind = λ es p q f g h k. Continues-bind es p.events p.ending f h k;
      read = λ port register es. appends.read port register es;
      write = λ port register value es. appends.write port register value es;
      abort = λ es. Continues-self es;
    }

-- the ports of a rule that runs alone only add events
pub PortsAppend-alone : (regs : List BitVector) → PortsAppend (alone_ports regs)
PortsAppend-alone regs = record {
  read = λ port register events. (_, refl);
  write = λ port register value events. chosen _ events _ (is_refused events (record { write = true; port = port; register = register }));
}
  where
    chosen : (cause : Stopped) (events : List Event) (e : Event) (refused : Bool)
        → let p : Progress BitVector Stopped = if refused then record { events = events; ending = Stop cause } else record { events = events ++ e ∷ []; ending = Value unit } in
        Continues events p.events
    chosen cause events e true = Continues-self events
    chosen cause events e false = (e ∷ [], refl)
