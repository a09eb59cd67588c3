-- What is written of a run batch by batch. This serves private functions alone.
use Rattle.std.specs.Prelude.{◌≡◌, ◌≤◌, ◌<◌, ℕ, ⊤, Bool, true, false, List, [], ◌++◌, length}
use Rattle.std.specs.List.{fold}
use Rattle.kw_bits.specs.BitVector.{BitVector}
use Rattle.koika_assert.specs.Violations as marked
use Rattle.koika_assert.specs.Violations.{violations, watched, watched_text}
use Rattle.one_rule.specs.declared.rows.Row.{Row}
use Rattle.stim_report.specs.Batches.{joined}
use Rattle.stim_report.specs.Report.{report, report_part}
use Rattle.stim_report.specs.Shapes.{RowsFit, widths_of}
use Rattle.stim_report.specs.Summary.{totals_of, totals_text}
use Rattle.stim_report.specs.Tallies as tallies
use Rattle.stim_report.specs.declared.shape.Shape.{Shape}
use Rattle.typed_core.specs.Widths.{HaveWidths}
use Rattle.front_end.specs.Marks.{Marks}
use Rattle.koika_top.specs.Sim.{rows_text}
use Rattle.koika_top.specs.declared.shown.Shown.{Shown}
use Rattle.koika_top.specs.declared.shown.Shown.TheVariants.{Report, Summary}
use Rattle.koika_top.specs.declared.teller.Form.{Form}
use Rattle.koika_top.specs.declared.teller.Form.TheVariants.{OfReport, OfSummary}
use Rattle.koika_top.specs.declared.teller.Teller.{Teller}

-- the rows so far end with this cycle, and are those of a system of this shape
abbrev pub FormGoesOn : Form → Shape → ℕ → Type 0
FormGoesOn OfReport shape from = ⊤
FormGoesOn (OfSummary tally) shape from = (tally.registers ≡ shape.registers) × (tally.rules ≡ shape.rules) × (tally.cycles ≡ from)

abbrev pub GoesOnFrom : Teller → Shape → ℕ → Type 0
GoesOnFrom teller shape from = FormGoesOn teller.form shape from × (teller.watch.cycles ≡ from)

-- the marks that a teller watches
abbrev pub marks_in : Teller → Marks
marks_in teller = record { names = teller.watch.names; rules = teller.watch.marks }

-- these are the rows so far
abbrev pub FormHasRows : Form → Shape → List Row → Type 0
FormHasRows OfReport shape rows = ⊤
FormHasRows (OfSummary tally) shape rows = tally ≡ totals_of shape rows

abbrev pub HasRows : Teller → Shape → Marks → List Row → Type 0
HasRows teller shape marks rows = FormHasRows teller.form shape rows × (teller.watch ≡ watched marks.names marks.rules rows)

-- what it is that is shown of rows
abbrev pub shown_by_form : Form → Shown
shown_by_form OfReport = Report
shown_by_form (OfSummary tally) = Summary

abbrev pub shown_by : Teller → Shown
shown_by teller = shown_by_form teller.form

-- whether something is written of a batch before the last one has come
abbrev pub writes_rows : Shown → Bool
writes_rows Report = true
writes_rows Summary = false

-- what is written in all of rows: what is shown of them, and the violations
abbrev pub all_told : Shown → Shape → Marks → List Row → List ℕ
all_told shown shape marks rows = rows_text shown shape rows ++ violations marks.names marks.rules rows

-- what is written of a batch that goes on from a cycle, of all rows so far, and after the last batch
abbrev pub part_of_batch : Shown → Shape → List Row → ℕ → List ℕ
part_of_batch Report shape batch from = report_part shape batch from
part_of_batch Summary shape batch from = []

abbrev pub told_of : Shown → Shape → List Row → List ℕ
told_of Report shape rows = report shape rows
told_of Summary shape rows = []

abbrev pub ending_of_form : Form → List ℕ
ending_of_form OfReport = []
ending_of_form (OfSummary tally) = totals_text tally

abbrev pub ending_of : Teller → List ℕ
ending_of teller = ending_of_form teller.form ++ watched_text teller.watch

-- a form, and a teller, that takes a batch has these rows and those of the batch
pub record FormTakesRows (shape : Shape) (old new : Form) (batch : List Row) : Type 0 where
  pub same : shown_by_form new ≡ shown_by_form old
  pub rows : (before : List Row) → RowsFit shape before → FormHasRows old shape before → RowsFit shape (joined before batch) × FormHasRows new shape (joined before batch)

pub record TakesRows (shape : Shape) (marks : Marks) (old new : Teller) (batch : List Row) : Type 0 where
  pub same : shown_by new ≡ shown_by old
  pub rows : (before : List Row) → RowsFit shape before → HasRows old shape marks before → RowsFit shape (joined before batch) × HasRows new shape marks (joined before batch)

-- ---- cycles that are counted without their rows

-- flags that a form counts: one for each rule
abbrev pub HasFlags : Form → List Bool → Type 0
HasFlags OfReport fired = ⊤
HasFlags (OfSummary tally) fired = length tally.rules ≤ length fired

-- registers that a form shows: one value of its width for each
abbrev pub HasValues : Form → List BitVector → Type 0
HasValues OfReport regs = ⊤
HasValues (OfSummary tally) regs = HaveWidths (widths_of tally.registers) regs

-- fewer cycles than these were taken
abbrev pub IsFormBefore : ℕ → Form → Type 0
IsFormBefore most OfReport = ⊤
IsFormBefore most (OfSummary tally) = tally.cycles < most

abbrev pub IsBefore : ℕ → Teller → Type 0
IsBefore most teller = IsFormBefore most teller.form × (teller.watch.cycles < most)

-- after a cycle more, in which the rules of these flags fired; the registers stay those of before
abbrev pub counted_form : Form → List Bool → Form
counted_form OfReport fired = OfReport
counted_form (OfSummary tally) fired = OfSummary (tallies.counted tally fired)

abbrev pub counted : Teller → List Bool → Teller
counted teller fired = record { form = counted_form teller.form fired; watch = marked.counted teller.watch fired }

-- with these last registers
abbrev pub closed_form : Form → List BitVector → Form
closed_form OfReport regs = OfReport
closed_form (OfSummary tally) regs = OfSummary (tallies.closed tally regs)

abbrev pub closed : Teller → List BitVector → Teller
closed teller regs = record { form = closed_form teller.form regs; watch = teller.watch }

-- after the cycles of rows, each counted by its flags
abbrev pub counted_all : Teller → List Row → Teller
counted_all teller rows = fold (λ (t : Teller) (row : Row). counted t row.fired) teller rows
