-- Port runs: rules whose reads and writes are refused and answered as they are made, against a rule log and a
-- scheduler log, after the checks of Kôika's logs (Bourgeat et al., PLDI 2020). Both logs are lists of events.
use Rattle.std.specs.Prelude.{ℕ, true, false, ◌||◌, List, [], ◌∷◌, ◌++◌, length, Option, Some, None, slice_get, slice_index_or, if◌then◌else◌}
use Rattle.kw_bits.specs.BitVector.{BitVector}
use Rattle.typed_core.specs.Alone.{after, is_refused, seen}
use Rattle.typed_core.specs.Evaluation.{Ending, Value, Stop, Environment, Evaluation, Ports, Progress, comes_to, evaluate, notes, stops, unit}
use Rattle.typed_core.specs.declared.access.Access.{Access}
use Rattle.typed_core.specs.declared.access.Event.{Event}
use Rattle.typed_core.specs.declared.action.Action.{Action}
use Rattle.typed_core.specs.declared.outcome.Stopped.{Stopped}
use Rattle.typed_core.specs.declared.outcome.Stopped.TheVariants.{Abort, Refused}
use Rattle.typed_core.specs.declared.design.Parts.{Parts}
use Rattle.typed_core.specs.declared.design.Rule.{Rule}
use Rattle.one_rule.specs.Cycle.{environment, flags}
use Rattle.one_rule.specs.Walk.{Firing, walk_from}
use Rattle.one_rule.specs.declared.rows.Row.{Row}

-- A read that the scheduler log refuses stops the rule. Every other evaluates to the value of the last write below its
-- port in the rule log, else in the scheduler log, else to the start value, and is noted with it.
abbrev pub read_behind : List Event → List BitVector → ℕ → ℕ → Evaluation BitVector Stopped
read_behind log regs port register events =
    let access : Access = record { write = false; port = port; register = register } in
    let value = seen port register events (seen port register log (slice_index_or regs register unit)) in
    if is_refused log access then stops (Refused access) events
    else notes (record { access = access; value = value }) value events

-- a write that the scheduler log or the rule log refuses stops the rule; every other is noted
abbrev pub write_behind : List Event → ℕ → ℕ → BitVector → Evaluation BitVector Stopped
write_behind log port register value events =
    let access : Access = record { write = true; port = port; register = register } in
    if is_refused log access || is_refused events access then stops (Refused access) events
    else notes (record { access = access; value = value }) unit events

-- the ports of a rule that runs after a scheduler log, in a cycle that began on these registers
abbrev pub ports_behind : List Event → List BitVector → Ports Stopped
ports_behind log regs = record { read = read_behind log regs; write = write_behind log; abort = Abort }

-- the rule log and how the rule ends: with a value, which is its end, or stopped by an abort or by the first access
-- that is refused
abbrev pub port_run : Environment → List Event → List BitVector → Action → Progress BitVector Stopped
port_run env log regs body = evaluate env (ports_behind log regs) body [] []

-- the port run of a rule of a design, if there is one of the number
abbrev pub port_run_if : Environment → List Event → List BitVector → Option Rule → Progress BitVector Stopped
port_run_if env log regs (Some rule) = port_run env log regs rule.body
port_run_if env log regs None = comes_to unit []

-- what a cycle of port runs keeps: the scheduler log, and the numbers of the rules that fired
pub record PortState : Type 0 where
  pub log : List Event
  pub fired : List ℕ

-- the log of a rule that reaches its end joins the scheduler log; every other is dropped
abbrev pub merge : PortState → ℕ → List Event → Ending BitVector Stopped → Option PortState
merge state rule events (Value value) = Some (record { log = state.log ++ events; fired = state.fired ++ rule ∷ [] })
merge state rule events (Stop cause) = None

abbrev pub port_fire : Parts → List BitVector → List BitVector → Firing PortState
port_fire design inputs regs rule state =
    let end = port_run_if (environment design inputs) state.log regs (slice_get design.rules rule) in
    merge state rule end.events end.ending

-- the end of a cycle of port runs, and its row
abbrev pub port_walk : Parts → List BitVector → List BitVector → PortState
port_walk design inputs regs =
    (walk_from (port_fire design inputs regs) design.nodes (record { log = []; fired = [] })).state

abbrev pub port_cycle : Parts → List BitVector → List BitVector → Row
port_cycle design inputs regs =
    let end : PortState = port_walk design inputs regs in
    record { regs = after end.log regs; fired = flags (length design.rules) end.fired }
