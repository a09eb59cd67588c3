-- What a session writes: the report of the run whose cycles are the lines that were read, and after it which marked
-- rules fired; or the rows before a line that has a fault, and the line of that fault.
use Rattle.std.specs.Prelude.{◌≡◌, ◌⊎◌, ℕ, List, [], ◌++◌, length, Option, None, Some}
use Rattle.kw_base.specs.FaultLine.{line_of_fault}
use Rattle.kw_base.specs.declared.fault.Fault.{Fault}
use Rattle.kw_bits.specs.BitVector.{BitVector}
use Rattle.kw_bits.specs.declared.host.HostSpec.{HostSpec}
use Rattle.koika_assert.specs.Violations.{violations}
use Rattle.koika_check.specs.declared.checked.Checked.{Checked}
use Rattle.koika_lower.specs.Lowering.{typed_input_widths}
use Rattle.one_rule.specs.Stimulus.{inputs_of}
use Rattle.one_rule.specs.declared.rows.Row.{Row}
use Rattle.stim_report.specs.Report.{report}
use Rattle.front_end.specs.Marks.{marks_of}
use Rattle.front_end.specs.Sources.{IsIllTyped, IsTooLong, SpellsDesign, shape_of}
use Rattle.front_end.specs.Systems.{run_of}
use Rattle.front_end.specs.declared.status.Status.{Status}
use Rattle.front_end.specs.declared.status.Status.TheVariants as statuses
use Rattle.stream_run.specs.Lines.{Heard, head_of, heard}

-- a text, and the fault that it ends with, if there is one
pub record Reply : Type 0 where
  pub text : List ℕ
  pub fault : Option Fault

-- the line of a fault alone
abbrev pub refusal : Fault → Reply
refusal fault = record { text = line_of_fault fault; fault = Some fault }

-- the rows of a design's run in these cycles
abbrev pub rows_of : Checked → List (List BitVector) → List Row
rows_of d cycles = run_of d (inputs_of (record { widths = typed_input_widths d; cycles = cycles })) (length cycles)

-- what comes after the rows: which marked rules fired, or the line of a fault
abbrev pub ending : Checked → List Row → Option Fault → List ℕ
ending d rows None = violations (marks_of d).names (marks_of d).rules rows
ending d rows (Some fault) = line_of_fault fault

-- the reply of a design to what was heard
abbrev pub reply_to : Checked → Heard → Reply
reply_to d heard = record {
  text = report (shape_of d) (rows_of d heard.cycles) ++ ending d (rows_of d heard.cycles) heard.fault;
  fault = heard.fault;
}

-- the head is too long, or spells no design
abbrev pub RefusesHead : List HostSpec → List ℕ → Reply → Type 0
RefusesHead hosts bytes reply =
    (fault : Fault) × (IsTooLong (head_of bytes) fault ⊎ IsIllTyped hosts (head_of bytes) fault)
    × (reply ≡ refusal fault)

-- the head spells a design, and the lines after it make its cycles
abbrev pub RunsLines : List HostSpec → List ℕ → Reply → Type 0
RunsLines hosts bytes reply =
    (design : Checked) × SpellsDesign hosts (head_of bytes) design × (reply ≡ reply_to design (heard design bytes))

-- the reply to these bytes, where these host functions are handed in
abbrev pub Answers : List HostSpec → List ℕ → Reply → Type 0
Answers hosts bytes reply = RefusesHead hosts bytes reply ⊎ RunsLines hosts bytes reply

-- the status of a call that wrote a reply with this fault, or with none
abbrev pub status_for : Option Fault → Status
status_for None = statuses.Done
status_for (Some fault) = statuses.Refused

-- the status of a call that wrote this reply
abbrev pub status_of : Reply → Status
status_of reply = status_for reply.fault
