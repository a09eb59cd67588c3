-- A teller that counts cycles by their flags, and then takes the last registers, is as if it had taken their rows.
use Rattle.std.proofs.Common.{◌≡◌, ℕ, ◌+◌, ◌<◌, ◌≤◌, ◌^◌, Bool, List, [], ◌∷◌, ◌++◌, length, refl, sym, ap, ◌∙◌, arith}
use Rattle.std.proofs.lemmas.List.Sums.{fold-append}
use Rattle.kw_bits.specs.BitVector.{BitVector}
use Rattle.koika_assert.specs.Violations as marked
use Rattle.koika_assert.specs.Violations.{Watched}
use Rattle.koika_assert.proofs.CountedMarks as marks
use Rattle.one_rule.specs.declared.rows.Row.{Row}
use Rattle.stim_report.specs.Batches.{joined}
use Rattle.stim_report.specs.Shapes.{RowFits, RowsFit, widths_of}
use Rattle.stim_report.specs.Summary.{last_values}
use Rattle.stim_report.specs.Tallies as tallies
use Rattle.stim_report.specs.declared.shape.NameWidth.{NameWidth}
use Rattle.stim_report.specs.declared.shape.Shape.{Shape}
use Rattle.stim_report.proofs.CountedCycles as cycles
use Rattle.typed_core.specs.Widths.{HaveWidths}
use Rattle.front_end.specs.Marks.{Marks}
use Rattle.koika_top.specs.inner.Telling.{FormGoesOn, FormHasRows, GoesOnFrom, HasFlags, HasRows, HasValues, IsBefore, IsFormBefore, TakesRows, closed, closed_form, counted, counted_all, counted_form, shown_by_form}
use Rattle.koika_top.specs.declared.teller.Form.{Form}
use Rattle.koika_top.specs.declared.teller.Form.TheVariants.{OfReport, OfSummary}
use Rattle.koika_top.specs.declared.teller.Teller.{Teller}
use Rattle.koika_top.proofs.Batches.{joined-fit}

-- ---- one cycle

form-has-flags : (form : Form) (shape : Shape) (from : ℕ) (fired : List Bool) → FormGoesOn form shape from → length shape.rules ≤ length fired → HasFlags form fired
form-has-flags OfReport shape from fired on enough = tt
form-has-flags (OfSummary tally) shape from fired on enough = omega (arith, ap length on.1, enough)

-- flags for the rules of a shape are those that the teller counts
pub has-flags : (teller : Teller) (shape : Shape) (from : ℕ) (fired : List Bool) → GoesOnFrom teller shape from → length shape.rules ≤ length fired → HasFlags teller.form fired
has-flags teller shape from fired on enough = form-has-flags teller.form shape from fired on.0 enough

form-has-values : (form : Form) (shape : Shape) (from : ℕ) (regs : List BitVector) → FormGoesOn form shape from → HaveWidths (widths_of shape.registers) regs → HasValues form regs
form-has-values OfReport shape from regs on wide = tt
form-has-values (OfSummary tally) shape from regs on wide = rw on.0 wide

-- and registers of its widths are those that it shows
pub has-values : (teller : Teller) (shape : Shape) (from : ℕ) (regs : List BitVector) → GoesOnFrom teller shape from → HaveWidths (widths_of shape.registers) regs → HasValues teller.form regs
has-values teller shape from regs on wide = form-has-values teller.form shape from regs on.0 wide

form-before : (form : Form) (shape : Shape) (from most : ℕ) → FormGoesOn form shape from → from < most → IsFormBefore most form
form-before OfReport shape from most on few = tt
form-before (OfSummary tally) shape from most on few = omega (arith, on.2, few)

-- a teller that goes on from a cycle took that many
pub is-before : (teller : Teller) (shape : Shape) (from most : ℕ) → GoesOnFrom teller shape from → from < most → IsBefore most teller
is-before teller shape from most on few = (form-before teller.form shape from most on.0 few, omega (arith, on.1, few))

form-on : (form : Form) (shape : Shape) (from : ℕ) (fired : List Bool) → FormGoesOn form shape from → FormGoesOn (counted_form form fired) shape (from + 1)
unfolding tallies.counted
form-on OfReport shape from fired on = tt
form-on (OfSummary tally) shape from fired on = (on.0, on.1, ap (λ (k : ℕ). k + 1) on.2)

-- after a cycle it goes on from the next
pub goes-on-next : (teller : Teller) (shape : Shape) (from : ℕ) (fired : List Bool) → GoesOnFrom teller shape from → GoesOnFrom (counted teller fired) shape (from + 1)
unfolding marked.counted
goes-on-next teller shape from fired on = (form-on teller.form shape from fired on.0, ap (λ (k : ℕ). k + 1) on.1)

-- a cycle more is counted last
pub counted-more : (teller : Teller) (rows : List Row) (row : Row) → counted_all teller (rows ++ row ∷ []) ≡ counted (counted_all teller rows) row.fired
counted-more teller rows row = fold-append (λ (t : Teller) (r : Row). counted t r.fired) teller rows (row ∷ [])

-- ---- all cycles

abbrev form_after : Form → List Row → Form
form_after OfReport rows = OfReport
form_after (OfSummary tally) rows = OfSummary (tallies.counted_all tally rows)

after-none : (form : Form) → form_after form [] ≡ form
after-none OfReport = refl
after-none (OfSummary tally) = refl

after-one : (form : Form) (row : Row) (rows : List Row) → form_after (counted_form form row.fired) rows ≡ form_after form (row ∷ rows)
after-one OfReport row rows = refl
after-one (OfSummary tally) row rows = refl

abbrev teller_of : Form → Watched → Teller
teller_of form watch = record { form = form; watch = watch }

-- a teller counts with its form and with its watch
all-counted : (form : Form) (watch : Watched) (rows : List Row) → counted_all (teller_of form watch) rows ≡ teller_of (form_after form rows) (marked.counted_all watch rows)
all-counted form watch [] = ap (λ (f : Form). teller_of f watch) (sym (after-none form))
all-counted form watch (row ∷ rows) =
    all-counted (counted_form form row.fired) (marked.counted watch row.fired) rows
    ∙ ap (λ (f : Form). teller_of f (marked.counted_all watch (row ∷ rows))) (after-one form row rows)

form-shown : (form : Form) (rows : List Row) (regs : List BitVector) → shown_by_form (closed_form (form_after form rows) regs) ≡ shown_by_form form
form-shown OfReport rows regs = refl
form-shown (OfSummary tally) rows regs = refl

form-has : (form : Form) (shape : Shape) (before : List Row) (row : Row) (rest : List Row) → 0 < length rest → FormHasRows form shape before
    → FormHasRows (closed_form (form_after form rest) (last_values rest)) shape (joined before (row ∷ rest))
form-has OfReport shape before row rest some has = tt
form-has (OfSummary tally) shape before row rest some has = cycles.counts_joined shape before tally row rest has some

-- what was counted and closed took the rows
pub takes-counted : (shape : Shape) (ms : Marks) (old new : Teller) (row : Row) (rest : List Row) → 0 < length rest → RowsFit shape (row ∷ rest)
    → new ≡ closed (counted_all old rest) (last_values rest) → TakesRows shape ms old new (row ∷ rest)
takes-counted shape ms old new row rest some fit is =
    let parts = is ∙ ap (λ (t : Teller). closed t (last_values rest)) (all-counted old.form old.watch rest) in
    record {
      same = ap (λ (t : Teller). shown_by_form t.form) parts ∙ form-shown old.form rest (last_values rest);
      rows = λ before fits has. (
        joined-fit shape before (row ∷ rest) fits fit,
        rw parts (form-has old.form shape before row rest some has.0, marks.counts_joined ms.names ms.rules before old.watch row rest has.1),
      );
    }
