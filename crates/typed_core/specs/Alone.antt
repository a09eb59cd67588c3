-- What a rule does when it runs alone, after Kôika's semantics with an empty scheduler log (Bourgeat et al.,
-- PLDI 2020): its events, how it ends, and the registers that it leaves.
use Rattle.std.specs.Prelude.{ℕ, Bool, true, false, ◌==◌, ◌&&◌, nat_lt, List, [], ◌∷◌, if◌then◌else◌, slice_index_or, slice_set}
use Rattle.std.specs.List.{list_any}
use Rattle.kw_bits.specs.BitVector.{BitVector}
use Rattle.typed_core.specs.Clash.{clashes}
use Rattle.typed_core.specs.Evaluation.{Ending, Value, Stop, Evaluation, Environment, Ports, evaluate, notes, stops, unit}
use Rattle.typed_core.specs.declared.access.Access.{Access}
use Rattle.typed_core.specs.declared.access.Event.{Event}
use Rattle.typed_core.specs.declared.action.Action.{Action}
use Rattle.typed_core.specs.declared.outcome.Stopped.{Stopped}
use Rattle.typed_core.specs.declared.outcome.Stopped.TheVariants as stopped
use Rattle.typed_core.specs.declared.outcome.Outcome.{Outcome}
use Rattle.typed_core.specs.declared.outcome.Outcome.TheVariants as ends
use Rattle.typed_core.specs.declared.outcome.Alone.{Alone}

-- a write of the register at a port below this one
abbrev pub is_write_below : ℕ → ℕ → Access → Bool
is_write_below port register access = access.write && (access.register == register) && nat_lt access.port port

-- what a read sees: the value of the last write of the register at a port below, or else the start value
abbrev pub seen : ℕ → ℕ → List Event → BitVector → BitVector
seen port register [] start = start
seen port register (e ∷ events) start =
    seen port register events (if is_write_below port register e.access then e.value else start)

-- some event refuses the access
abbrev pub is_refused : List Event → Access → Bool
is_refused events access = list_any (λ (e : Event). clashes access e.access) events

-- a read evaluates to the value that it sees, and is noted with it
abbrev pub read : List BitVector → ℕ → ℕ → Evaluation BitVector Stopped
read regs port register events =
    let access : Access = record { write = false; port = port; register = register } in
    let value = seen port register events (slice_index_or regs register unit) in
    notes (record { access = access; value = value }) value events

-- a write that the rule's own events refuse stops the rule and isn't noted; every other is noted
abbrev pub write : ℕ → ℕ → BitVector → Evaluation BitVector Stopped
write port register value events =
    let access : Access = record { write = true; port = port; register = register } in
    if is_refused events access then stops (stopped.Refused access) events
    else notes (record { access = access; value = value }) unit events

-- the ports of a rule that runs alone on these registers
abbrev pub alone_ports : List BitVector → Ports Stopped
alone_ports regs = record { read = read regs; write = write; abort = stopped.Abort }

-- a body that has a value reached its end
abbrev pub outcome_of : Ending BitVector Stopped → Outcome
outcome_of (Value value) = ends.Done
outcome_of (Stop stopped.Abort) = ends.Abort
outcome_of (Stop (stopped.Refused access)) = ends.OwnClash access

-- the events and the outcome of a rule's body that runs alone on these registers
abbrev pub alone : Environment → List BitVector → Action → Alone
alone env regs body =
    let end = evaluate env (alone_ports regs) body [] [] in
    record { events = end.events; outcome = outcome_of end.ending }

-- the registers after an event: a register that is written has the value
abbrev pub after_one : List BitVector → Event → List BitVector
after_one regs e = if e.access.write then slice_set regs e.access.register e.value else regs

-- the registers after the events: each that was written has the value of its last write
abbrev pub after : List Event → List BitVector → List BitVector
after [] regs = regs
after (e ∷ events) regs = after events (after_one regs e)
