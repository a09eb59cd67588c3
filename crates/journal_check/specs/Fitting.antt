-- What fits a design and a stimulus: names are those of its registers and rules, values have their registers' widths,
-- workers are at most as many as there were, and attempts have the stimulus's inputs. A name is that of the first
-- thing that has it.
use Rattle.std.specs.Prelude.{◌≡◌, ◌≢◌, ℕ, ◌<◌, ◌≤◌, ◌^◌, Some, slice_get}
use Rattle.std.specs.List.{AllByRecursion}
use Rattle.kw_bits.specs.BitVector.{BitVector}
use Rattle.kw_bits.specs.Laws.{HasWidth}
use Rattle.typed_core.specs.Laws.{read_at}
use Rattle.typed_core.specs.Valid.{IsPort}
use Rattle.typed_core.specs.Widths.{register_widths}
use Rattle.typed_core.specs.declared.access.Access.{Access}
use Rattle.typed_core.specs.declared.access.Event.{Event}
use Rattle.typed_core.specs.declared.design.Parts.{Parts}
use Rattle.typed_core.specs.declared.outcome.Outcome.{Outcome}
use Rattle.typed_core.specs.declared.outcome.Outcome.TheVariants as outcome
use Rattle.one_rule.specs.Stimulus.{InputVectors, inputs_of}
use Rattle.attempt_log.specs.declared.cause.Cause.{Cause}
use Rattle.attempt_log.specs.declared.cause.Cause.TheVariants as cause
use Rattle.attempt_log.specs.declared.cause.StaleRead.{StaleRead}
use Rattle.attempt_log.specs.declared.entry.Entry.{Entry}
use Rattle.attempt_log.specs.declared.entry.Entry.TheVariants as entry
use Rattle.attempt_log.specs.declared.entry.Settled.{Settled}
use Rattle.attempt_log.specs.declared.entry.Settled.TheVariants as settled
use Rattle.board_core.specs.declared.kept.TheConstants.{MAX_CYCLES}
use Rattle.journal_check.specs.Printing.{register_name, rule_name}
use Rattle.journal_check.specs.Tokens.{number_named, register_names, rule_names}
use Rattle.journal_check.specs.declared.line.JournalLine.{JournalLine}
use Rattle.journal_check.specs.declared.line.JournalLine.TheVariants as line

-- a register and a rule of the design, each the first of its name
abbrev pub IsRegister : Parts → ℕ → Type 0
IsRegister design number = number_named (register_names design) (register_name design number) ≡ Some number

-- the number is that of a rule, which its name finds
abbrev pub IsRule : Parts → ℕ → Type 0
IsRule design number = number_named (rule_names design) (rule_name design number) ≡ Some number

-- a number of 32 bits
abbrev pub IsSmall : ℕ → Type 0
IsSmall number = number < 2 ^ 32

-- an access is at a port and of a register that are there
pub record AccessFits (design : Parts) (a : Access) : Type 0 where
  pub port : IsPort a.port
  pub register : IsRegister design a.register

-- a value has its register's width
abbrev pub RegisterValueFits : Parts → ℕ → BitVector → Type 0
RegisterValueFits design register value = (width : ℕ) × (slice_get (register_widths design) register ≡ Some width) × HasWidth value width

-- an event's access is there, and its value fits
pub record RegisterEventFits (design : Parts) (e : Event) : Type 0 where
  pub access : AccessFits design e.access
  pub value : RegisterValueFits design e.access.register e.value

-- an outcome's access is there
abbrev pub OutcomeFits : Parts → Outcome → Type 0
OutcomeFits design outcome.Done = Unit {0}
OutcomeFits design outcome.Abort = Unit {0}
OutcomeFits design (outcome.OwnClash a) = AccessFits design a

-- a cause's accesses and rule are there
abbrev pub CauseFits : Parts → Cause → Type 0
CauseFits design cause.Abort = Unit {0}
CauseFits design (cause.OwnClash a) = AccessFits design a
CauseFits design (cause.Clash a rule earlier) = AccessFits design a × IsRule design rule × AccessFits design earlier

-- a read whose two values differ
pub record StaleFits (design : Parts) (read : StaleRead) : Type 0 where
  pub access : AccessFits design (read_at read.port read.register)
  pub held : RegisterValueFits design read.register read.held
  pub now_value : RegisterValueFits design read.register read.now
  pub differ : read.held ≢ read.now

-- what a settle answers names cycles, rules and causes that are there
abbrev pub SettledFits : Parts → Settled → Type 0
SettledFits design (settled.Committed cycle rule) = IsSmall cycle × IsRule design rule
SettledFits design (settled.Skipped cycle rule why) = IsSmall cycle × IsRule design rule × CauseFits design why
SettledFits design (settled.Stale cycle rule read) = IsSmall cycle × IsRule design rule × StaleFits design read
SettledFits design (settled.CycleClosed cycle) = IsSmall cycle
SettledFits design (settled.Waiting cycle rule) = IsSmall cycle × IsRule design rule
SettledFits design settled.Finished = Unit {0}

-- an entry of a run with this many workers; whoever finishes a batch has the number after the last worker's
abbrev pub EntryFits : Parts → InputVectors → ℕ → Entry → Type 0
EntryFits design stimulus workers (entry.Submit worker cycle rule inputs events ending answer) =
    (worker ≤ workers) × (1 ≤ cycle) × (cycle ≤ MAX_CYCLES) × IsRule design rule × (inputs ≡ inputs_of stimulus cycle) × AllByRecursion (RegisterEventFits design) events × OutcomeFits design ending
EntryFits design stimulus workers (entry.Settle worker answer) = (worker ≤ workers) × SettledFits design answer

-- what a line says fits the design, the stimulus and the number of workers
abbrev pub LineFits : Parts → InputVectors → ℕ → JournalLine → Type 0
LineFits design stimulus workers (line.Begins count) = (1 ≤ count) × (count ≤ 8)
LineFits design stimulus workers (line.Batch from to) = IsSmall from × IsSmall to
LineFits design stimulus workers (line.Entry e) = EntryFits design stimulus workers e
