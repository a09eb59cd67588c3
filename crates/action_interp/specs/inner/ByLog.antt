-- The ports of a rule that runs after a scheduler log, as the log's flags and values tell them, and what its evaluation
-- gave. This serves private functions: public contracts speak of the lists of events that a log stands for.
use Rattle.std.specs.Prelude.{◌≡◌, ℕ, zero, suc, Bool, true, false, ◌&&◌, ◌||◌, List, map, min, nat_le, Option, Result, Ok, Err, slice_index_or, if◌then◌else◌}
use Rattle.kw_bits.specs.BitVector.{BitVector}
use Rattle.typed_core.specs.Alone.{is_refused, seen}
use Rattle.typed_core.specs.Evaluation.{Evaluation, Ports, notes, stops, unit}
use Rattle.typed_core.specs.Widths.{HaveWidths}
use Rattle.typed_core.specs.declared.access.Access.{Access}
use Rattle.typed_core.specs.declared.access.Event.{Event}
use Rattle.typed_core.specs.declared.limits.TheConstants.{PORTS}
use Rattle.typed_core.specs.declared.outcome.Stopped.{Stopped}
use Rattle.typed_core.specs.declared.outcome.Stopped.TheVariants.{Abort, Refused}
use Rattle.one_rule.specs.declared.evaluation.Interrupt.{Interrupt}
use Rattle.one_rule.specs.declared.evaluation.Interrupt.TheVariants as interrupt
use Rattle.rule_log.specs.inner.OneRegister.{written_below}
use Rattle.rule_log.specs.StandsFor.{RegisterLog, StandsFor, is_set}
use Rattle.action_interp.specs.declared.run.RuleEnd.{RuleEnd}
use Rattle.action_interp.specs.declared.run.RuleEnd.TheVariants as end

-- the log has an access of this kind of the register, at a port from the first on and below the last
abbrev pub any_from : RegisterLog → Bool → ℕ → ℕ → ℕ → Bool
any_from log write register first zero = false
any_from log write register first (suc port) =
    (nat_le first port && is_set log write port register) || any_from log write register first port

-- an access of the log refuses this one
abbrev pub refused_by : RegisterLog → Access → Bool
refused_by log a =
    any_from log true a.register a.port PORTS || (a.write && any_from log false a.register (suc a.port) PORTS)

-- the value of the log's last write of the register below the port, or else the start value
abbrev pub seen_by : RegisterLog → ℕ → ℕ → BitVector → BitVector
seen_by log port register start = written_below log (min port PORTS) register start

-- what a read evaluates to and what a write does, by the log
abbrev pub read_by : RegisterLog → List BitVector → ℕ → ℕ → Evaluation BitVector Stopped
read_by log regs port register events =
    let access : Access = record { write = false; port = port; register = register } in
    let value = seen port register events (seen_by log port register (slice_index_or regs register unit)) in
    if refused_by log access then stops (Refused access) events
    else notes (record { access = access; value = value }) value events

abbrev pub write_by : RegisterLog → ℕ → ℕ → BitVector → Evaluation BitVector Stopped
write_by log port register value events =
    let access : Access = record { write = true; port = port; register = register } in
    if refused_by log access || is_refused events access then stops (Refused access) events
    else notes (record { access = access; value = value }) unit events

abbrev pub ports_by : RegisterLog → List BitVector → Ports Stopped
ports_by log regs = record { read = read_by log regs; write = write_by log; abort = Abort }

-- the widths of values
abbrev pub widths_of : List BitVector → List ℕ
widths_of values = map (λ (value : BitVector). value.width) values

-- a rule runs on these registers after the scheduler log, and its own log stands for its events so far
pub record IsRunning (regs : List BitVector) (sched log : RegisterLog) (events : List Event) : Type 0 where
  pub fits : HaveWidths (widths_of regs) regs
  pub behind : (before : List Event) × StandsFor (widths_of regs) sched before
  pub noted : StandsFor (widths_of regs) log events

-- a rule whose evaluation gives this ends so, unless the evaluation ran out of memory
abbrev pub Ends : Result (Option BitVector) Interrupt → RuleEnd → Type 0
Ends (Ok value) e = e ≡ end.Fired
Ends (Err (interrupt.Stop Abort)) e = e ≡ end.Aborted
Ends (Err (interrupt.Stop (Refused access))) e = e ≡ end.Blocked access
Ends (Err interrupt.NoMemory) e = ⊥
