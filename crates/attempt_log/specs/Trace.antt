-- Traces: the events and the outcome that a rule gives where its reads are answered by the values that the events
-- themselves list, over the evaluation of Kôika's actions (Bourgeat et al., PLDI 2020). No register state is named:
-- listed values may contradict each other, and then no state gives them.
use Rattle.std.specs.Prelude.{◌≡◌, ℕ, Bool, false, not, ◌==◌, ◌&&◌, List, [], length, Option, Some, None, slice_get, slice_index_or, if◌then◌else◌, All}
use Rattle.kw_bits.specs.BitVector.{BitVector, zero_at}
use Rattle.kw_bits.specs.Laws.{HasWidth}
use Rattle.typed_core.specs.Alone.{outcome_of, write}
use Rattle.typed_core.specs.Evaluation.{Environment, Evaluation, Ports, evaluate, notes}
use Rattle.typed_core.specs.Laws.{read_at}
use Rattle.typed_core.specs.Widths.{register_widths}
use Rattle.typed_core.specs.declared.access.Event.{Event}
use Rattle.typed_core.specs.declared.design.Parts.{Parts}
use Rattle.typed_core.specs.declared.design.Rule.{Rule}
use Rattle.typed_core.specs.declared.outcome.Alone.{Alone}
use Rattle.typed_core.specs.declared.outcome.Outcome.TheVariants.{Done}
use Rattle.typed_core.specs.declared.outcome.Stopped.{Stopped}
use Rattle.typed_core.specs.declared.outcome.Stopped.TheVariants.{Abort}
use Rattle.one_rule.specs.Cycle.{environment}

-- the event is a read of the register at the port
abbrev pub is_read : ℕ → ℕ → Event → Bool
is_read port register e = not e.access.write && (e.access.port == port) && (e.access.register == register)

-- What a read evaluates to: the value of the listed event at its place. Where the list has another event there, or
-- none, it evaluates to 0, and its own event isn't the list's.
abbrev pub listed : List ℕ → ℕ → ℕ → Option Event → BitVector
listed widths port register None = zero_at (slice_index_or widths register 0)
listed widths port register (Some e) = if is_read port register e then e.value else zero_at (slice_index_or widths register 0)

-- a read evaluates to what is listed for it, and is noted with it
abbrev pub read_listed : List ℕ → List Event → ℕ → ℕ → Evaluation BitVector Stopped
read_listed widths trace port register events =
    let value = listed widths port register (slice_get trace (length events)) in
    notes (record { access = read_at port register; value = value }) value events

-- the ports of a rule whose reads the list answers; its writes are those of a rule alone
abbrev pub trace_ports : List ℕ → List Event → Ports Stopped
trace_ports widths trace = record { read = read_listed widths trace; write = write; abort = Abort }

-- the events and the outcome of a rule, if there is one, whose reads the list answers
abbrev pub retrace : Environment → List ℕ → List Event → Option Rule → Alone
retrace env widths trace (Some rule) =
    let end = evaluate env (trace_ports widths trace) rule.body [] [] in
    record { events = end.events; outcome = outcome_of end.ending }
retrace env widths trace None = record { events = []; outcome = Done }

-- with registers of these widths, a value that was read has its register's width
abbrev pub ReadFits : List ℕ → Event → Type 0
ReadFits widths e = e.access.write ≡ false → (width : ℕ) × (slice_get widths e.access.register ≡ Some width) × HasWidth e.value width

-- each read's value has its register's width
abbrev pub ReadsFit : List ℕ → List Event → Type 0
ReadsFit widths events = All (ReadFits widths) events

-- with these inputs, the rule of the design gives exactly these events and this outcome where the events answer its
-- reads
pub record IsTrace (design : Parts) (rule : ℕ) (inputs : List BitVector) (run : Alone) : Type 0 where
  pub gives : retrace (environment design inputs) (register_widths design) run.events (slice_get design.rules rule) ≡ run
  pub reads : ReadsFit (register_widths design) run.events
