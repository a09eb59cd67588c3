-- What is written line by line is the report of the run of all lines.
use Rattle.std.proofs.Common.{◌≡◌, ℕ, ◌+◌, List, [], ◌∷◌, ◌++◌, length, append_assoc, append-nil, Option, Some, None, Result, Ok, Err, refl, sym, ap, ap₂, ◌∙◌}
use Rattle.kw_base.specs.FaultLine.{line_of_fault}
use Rattle.kw_base.specs.declared.fault.Fault.{Fault}
use Rattle.kw_bits.specs.BitVector.{BitVector}
use Rattle.koika_assert.specs.Violations.{Watched, watched, watched_on, watched_text}
use Rattle.koika_check.specs.declared.checked.Checked.{Checked}
use Rattle.koika_lower.specs.Lowering.{typed_input_widths}
use Rattle.one_rule.specs.Run.{opening}
use Rattle.one_rule.specs.declared.rows.Row.{Row}
use Rattle.stim_report.specs.Cuts.{parts_of}
use Rattle.stim_report.specs.Report.{line_of, lines_from}
use Rattle.stim_report.specs.Stimuli.{next_line}
use Rattle.front_end.specs.Marks.{marks_of}
use Rattle.front_end.specs.Sources.{shape_of}
use Rattle.front_end.specs.Systems.{first_values, system_of}
use Rattle.stream_run.specs.Lines.{Heard, heard, heard_from, heard_then, inputs_on, lines_in}
use Rattle.stream_run.specs.Replies.{Reply, ending, reply_to, rows_of}
use Rattle.stream_run.specs.inner.Telling.{Place, after_text, first_place, next_place, next_row, told_from, told_then, whole_reply}
use Rattle.stream_run.proofs.Known.{watched-first, watched-more}
use Rattle.stream_run.proofs.Rows.{rows_by, run-by}

module _ (d : Checked) where
  -- the rows that come after a cycle, and what comes after them
  abbrev on : ℕ → List Row → List Row → Option Fault → Reply
  on cycle before rows fault = record { text = lines_from (shape_of d) (cycle + 1) rows ++ ending d (before ++ rows) fault; fault = fault }

  -- the same of what is heard
  abbrev on_heard : ℕ → List Row → List BitVector → Heard → Reply
  on_heard cycle before regs heard = on cycle before (rows_by (system_of d) heard.cycles regs) heard.fault

  -- one row more
  one_more : (cycle : ℕ) (first : Row) (before : List Row) (row : Row) (rows : List Row) (fault : Option Fault)
      → after_text (line_of (shape_of d) (cycle + 1) row) (on (cycle + 1) (first ∷ before ++ row ∷ []) rows fault) ≡ on cycle (first ∷ before) (row ∷ rows) fault
  one_more cycle first before row rows fault =
      let shape = shape_of d in
      ap (λ (text : List ℕ). let reply : Reply = record { text = text; fault = fault } in reply) (
      ap (λ (all : List Row). line_of shape (cycle + 1) row ++ (lines_from shape (cycle + 1 + 1) rows ++ ending d (first ∷ all) fault)) (append_assoc before (row ∷ []) rows)
      ∙ sym (append_assoc (line_of shape (cycle + 1) row) (lines_from shape (cycle + 1 + 1) rows) (ending d (first ∷ before ++ row ∷ rows) fault))
      )

  -- what is left to write where these lines are left is what they give
  abbrev IsTold : ℕ → ℕ → Row → List (List ℕ) → Type 0
  IsTold cycle number first lines =
      (regs : List BitVector) (known : Watched) (before : List Row) → known ≡ watched (marks_of d).names (marks_of d).rules (first ∷ before)
      → told_from d (record { cycle = cycle; line = number; regs = regs; known = known }) lines ≡ on_heard cycle (first ∷ before) regs (heard_from (shape_of d).inputs (cycle + 1) number lines)

  -- a line and what follows it
  told-line : (lines : List (List ℕ)) (cycle number : ℕ) (first : Row) → IsTold (cycle + 1) (next_line number) first lines → (regs : List BitVector) (known : Watched) (before : List Row)
      → known ≡ watched (marks_of d).names (marks_of d).rules (first ∷ before) → (r : Result (List BitVector) Fault)
      → told_then r (λ (values : List BitVector).
      let place : Place = record { cycle = cycle; line = number; regs = regs; known = known } in
      after_text (line_of (shape_of d) (cycle + 1) (next_row d place values)) (told_from d (next_place d place values) lines))
      ≡ on_heard cycle (first ∷ before) regs (heard_then r (heard_from (shape_of d).inputs (cycle + 1 + 1) (next_line number) lines))
  told-line lines cycle number first later regs known before is (Err fault) = refl
  told-line lines cycle number first later regs known before is (Ok values) =
      let place : Place = record { cycle = cycle; line = number; regs = regs; known = known } in
      let row = next_row d place values in
      let heard = heard_from (shape_of d).inputs (cycle + 1 + 1) (next_line number) lines in
      let more = ap (λ (k : Watched). watched_on k (opening (system_of d).rules regs ∷ row ∷ [])) is ∙ watched-more (marks_of d).names (marks_of d).rules first before (opening (system_of d).rules regs) row in
      ap (after_text (line_of (shape_of d) (cycle + 1) row)) (later row.regs _ (before ++ row ∷ []) more)
      ∙ one_more cycle first before row (rows_by (system_of d) heard.cycles row.regs) heard.fault

  told : (lines : List (List ℕ)) (cycle number : ℕ) (first : Row) → IsTold cycle number first lines
  told [] cycle number first regs known before is =
      ap (λ (k : Watched). let reply : Reply = record { text = watched_text k; fault = None } in reply) (is ∙ ap (λ (rows : List Row). watched (marks_of d).names (marks_of d).rules (first ∷ rows)) (sym (append-nil before)))
  told (line ∷ lines) cycle number first regs known before is =
      told-line lines cycle number first (told lines (cycle + 1) (next_line number) first) regs known before is (inputs_on (shape_of d).inputs (cycle + 1) number line)

  -- the reply to what is heard of lines is what is written line by line
  pub replies : (number : ℕ) (lines : List (List ℕ))
      → reply_to d (heard_from (shape_of d).inputs 1 number lines) ≡ after_text (line_of (shape_of d) 0 (opening (system_of d).rules (first_values d))) (told_from d (first_place d number) lines)
  replies number lines =
      let shape = shape_of d in
      let h = heard_from shape.inputs 1 number lines in
      let first = opening (system_of d).rules (first_values d) in
      let rows = rows_by (system_of d) h.cycles (first_values d) in
      ap (λ (all : List Row). let reply : Reply = record { text = lines_from shape 0 all ++ ending d all h.fault; fault = h.fault } in reply) (run-by (system_of d) (typed_input_widths d) h.cycles (first_values d))
      ∙ ap (λ (text : List ℕ). let reply : Reply = record { text = text; fault = h.fault } in reply) (append_assoc (line_of shape 0 first) (lines_from shape 1 rows) (ending d (first ∷ rows) h.fault))
      ∙ ap (after_text (line_of shape 0 first)) (sym (told lines 0 number first (first_values d) _ [] (watched-first (marks_of d).names (marks_of d).rules first)))

  pub whole-replies : (bytes rest : List ℕ) (line : ℕ) → (parts_of bytes).stimulus ≡ rest → (parts_of bytes).first_line ≡ line → reply_to d (heard d bytes) ≡ whole_reply d line rest
  whole-replies bytes rest line is number =
      ap₂ (λ (n : ℕ) (text : List ℕ). reply_to d (heard_from (shape_of d).inputs 1 n (lines_in text))) number is ∙ replies line (lines_in rest)
