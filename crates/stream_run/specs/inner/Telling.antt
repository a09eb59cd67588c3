-- What is left to write of a session, by where its run is and the lines that are left. This serves private functions
-- alone.
use Rattle.std.specs.Prelude.{◌≡◌, ◌⊎◌, ℕ, ◌+◌, Bool, true, false, List, [], ◌∷◌, ◌++◌, Option, None, Some, Result, Ok}
use Rattle.std.specs.Prelude.{Err}
use Rattle.std.specs.Io.KnownBytes.{Appends, Keeps}
use Rattle.kw_base.specs.FaultLine.{line_of_fault}
use Rattle.kw_base.specs.declared.fault.Fault.{Fault}
use Rattle.kw_base.specs.declared.fault.Refusal.{Refusal}
use Rattle.kw_base.specs.declared.fault.Refusal.TheVariants as refusals
use Rattle.kw_bits.specs.BitVector.{BitVector}
use Rattle.kw_bits.specs.declared.host.HostSpec.{HostSpec}
use Rattle.koika_assert.specs.Violations.{Watched, watched, watched_on, watched_text}
use Rattle.koika_check.specs.declared.checked.Checked.{Checked}
use Rattle.one_rule.specs.Cycle.{cycle}
use Rattle.one_rule.specs.Run.{opening}
use Rattle.one_rule.specs.declared.rows.Row.{Row}
use Rattle.stim_report.specs.Report.{line_of}
use Rattle.stim_report.specs.Stimuli.{next_line}
use Rattle.front_end.specs.Marks.{marks_of}
use Rattle.front_end.specs.Program.{IsFailure}
use Rattle.front_end.specs.Sources.{IsIllTyped, shape_of}
use Rattle.front_end.specs.Streams.{AppendsFront}
use Rattle.front_end.specs.Systems.{first_values, system_of}
use Rattle.stream_run.specs.Lines.{inputs_on, lines_in}
use Rattle.stream_run.specs.Replies.{Answers, Reply, refusal}
use Rattle.stream_run.specs.Sessions.{MayGive}
use Rattle.stream_run.specs.declared.line_run.LineRun.{LineRun}
use Rattle.stream_run.specs.declared.stop.Stop.{Stop}
use Rattle.stream_run.specs.declared.stop.Stop.TheVariants as stops

-- where a run is: how many cycles it had, the number of the next line in the source, the registers, and what is known
-- of marks
pub record Place : Type 0 where
  pub cycle : ℕ
  pub line : ℕ
  pub regs : List BitVector
  pub known : Watched

-- where a kept run is
abbrev pub place_of : LineRun → Place
place_of line_run = record { cycle = line_run.cycle; line = line_run.line; regs = line_run.regs; known = line_run.watch }

-- before the first cycle
abbrev pub first_place : Checked → ℕ → Place
first_place d line =
    record { cycle = 0; line = line; regs = first_values d; known = watched (marks_of d).names (marks_of d).rules [] }

-- the row of the next cycle
abbrev pub next_row : Checked → Place → List BitVector → Row
next_row d place values = cycle (system_of d) values place.regs

-- where the run is after that cycle
abbrev pub next_place : Checked → Place → List BitVector → Place
next_place d place values =
    let row : Row = next_row d place values in
    record {
      cycle = place.cycle + 1;
      line = next_line place.line;
      regs = row.regs;
      known = watched_on place.known (opening (system_of d).rules place.regs ∷ row ∷ []);
    }

-- a text, and then a reply
abbrev pub after_text : List ℕ → Reply → Reply
after_text text reply = record { text = text ++ reply.text; fault = reply.fault }

-- what is written of a line's inputs and of what follows, or of its fault
abbrev pub told_then : Result (List BitVector) Fault → (List BitVector → Reply) → Reply
told_then (Ok values) later = later values
told_then (Err fault) later = refusal fault

-- what is left to write where these lines are left
abbrev pub told_from : Checked → Place → List (List ℕ) → Reply
told_from d place [] = record { text = watched_text place.known; fault = None }
told_from d place (line ∷ lines) =
    told_then (inputs_on (shape_of d).inputs (place.cycle + 1) place.line line) (λ (values : List BitVector).
    after_text (line_of (shape_of d) (place.cycle + 1) (next_row d place values))
    (told_from d (next_place d place values) lines))

-- a part of a session that ended so wrote this of a reply: all of it; all before the line of its fault; or its first
-- bytes
abbrev pub Writes : Reply → Option (List ℕ) → Option (List ℕ) → Result (Unit {0}) Stop → Type 0
Writes reply old new (Ok done) = (reply.fault ≡ None) × Appends old new reply.text
Writes reply old new (Err (stops.Fault fault)) =
    (reply.fault ≡ Some fault) × ((rows : List ℕ) × (reply.text ≡ rows ++ line_of_fault fault) × Appends old new rows)
Writes reply old new (Err stops.ReadFault) = AppendsFront old new reply.text
Writes reply old new (Err stops.WriteFault) = AppendsFront old new reply.text
Writes reply old new (Err stops.NoMemory) = AppendsFront old new reply.text

-- a line was answered, and the run goes on; or the session ends with it
abbrev pub AnswersLine : Checked → Place → Place → List ℕ → Option (List ℕ) → Option (List ℕ) → Result (Unit {0}) Stop
    → Type 0
AnswersLine d before behind line old new (Ok done) =
    (text : List ℕ) × Appends old new text
    × ((lines : List (List ℕ)) → told_from d before (line ∷ lines) ≡ after_text text (told_from d behind lines))
AnswersLine d before behind line old new (Err stop) =
    (lines : List (List ℕ)) → Writes (told_from d before (line ∷ lines)) old new (Err stop)

-- the session went on from a place with the bytes that were to come
abbrev pub Finishes : Checked → Place → Option (List ℕ) → Option (List ℕ) → Option (List ℕ) → Result (Unit {0}) Stop
    → Type 0
Finishes d place coming old new result =
    (rest : List ℕ) × MayGive coming rest × Writes (told_from d place (lines_in rest)) old new result

-- what is to be written of a design, from its first row on, and of the lines in these bytes
abbrev pub whole_reply : Checked → ℕ → List ℕ → Reply
whole_reply d line rest =
    after_text (line_of (shape_of d) 0 (opening (system_of d).rules (first_values d)))
    (told_from d (first_place d line) (lines_in rest))

-- the session went on from a design's first row; lines are left only where the head's line `%%` came
pub record FinishesDesign (d : Checked) (line : ℕ) (is_open : Bool) (coming old new : Option (List ℕ))
    (result : Result (Unit {0}) Stop) : Type 0 where
  pub rest : List ℕ
  pub some : is_open ≡ true → MayGive coming rest
  pub none : is_open ≡ false → rest ≡ []
  pub writes : Writes (whole_reply d line rest) old new result

-- a whole session: a part of the reply to bytes that the source may give was written; or nothing was, since reading
-- failed or memory ran out
abbrev pub FinishesSession : List HostSpec → Option (List ℕ) → Option (List ℕ) → Option (List ℕ)
    → Result (Unit {0}) Stop → Type 0
FinishesSession hosts left old new result =
    ((bytes : List ℕ) × MayGive left bytes
    × ((reply : Reply) × Answers hosts bytes reply × Writes reply old new result))
    ⊎ (Keeps old new × ((result ≡ Err stops.ReadFault) ⊎ (result ≡ Err stops.NoMemory)))
