-- What a recheck makes of a source's parts, and how the rows of a run are reported at once.
use Rattle.std.proofs.Common.{◌≡◌, ◌<◌, ℕ, List, [], ◌++◌, length, Result, refl, sym, ap, ap₂, subst, ◌∙◌, arith}
use Rattle.std.specs.Prelude.{IfOk}
use Rattle.kw_base.specs.Fault.{IfFault}
use Rattle.kw_base.specs.declared.fault.Fault.{Fault}
use Rattle.kw_base.specs.declared.fault.Refusal.{Refusal}
use Rattle.typed_core.specs.Valid.{IsValid}
use Rattle.typed_core.specs.declared.design.Parts.{Parts}
use Rattle.one_rule.specs.Run as core_run
use Rattle.one_rule.specs.Run.{InputsByCycle}
use Rattle.one_rule.specs.Stimulus.{AlwaysFits, InputVectors, inputs_of}
use Rattle.one_rule.specs.declared.rows.Row.{Row}
use Rattle.journal_check.specs.Checking.{IsFirstJournalFault, IsGood}
use Rattle.journal_check.specs.Reading.{IsFirstMalformed, IsJournal}
use Rattle.journal_check.specs.declared.journal.Journal.{Journal}
use Rattle.koika_assert.specs.Violations.{watched_text}
use Rattle.koika_check.specs.declared.checked.Checked.{Checked}
use Rattle.koika_lower.specs.Lowering.{IsLowered, typed_input_widths}
use Rattle.stim_report.specs.Shapes.{RowsFit}
use Rattle.stim_report.specs.declared.shape.Shape.{Shape}
use Rattle.front_end.specs.Marks.{Marks}
use Rattle.koika_top.specs.Sim.{text_of_rows}
use Rattle.front_end.specs.Sources.{shape_of}
use Rattle.front_end.specs.Systems.{run_of}
use Rattle.koika_top.specs.inner.Telling.{HasRows, TakesRows, ending_of, ending_of_form, part_of_batch, shown_by, shown_by_form}
use Rattle.koika_top.specs.declared.shown.Shown.{Shown}
use Rattle.koika_top.specs.declared.shown.Shown.TheVariants.{Report, Summary}
use Rattle.koika_top.specs.declared.teller.Form.{Form}
use Rattle.koika_top.specs.declared.teller.Form.TheVariants.{OfReport, OfSummary}
use Rattle.koika_top.specs.declared.teller.Teller.{Teller}
use Rattle.koika_top.proofs.Records.{if_ok}
use Rattle.koika_top.proofs.TypedRows.{same-rows, typed-fit}

-- what was read of equal parts
pub journal-at : (core core' : Parts) (s s' : InputVectors) (n n' : ℕ) (text text' : List ℕ) (journal : Journal) → core ≡ core' → s ≡ s' → n ≡ n' → text ≡ text' → IsJournal core s n text journal → IsJournal core' s' n' text' journal
journal-at core core' s s' n n' text text' journal c r l t is =
    subst (λ (x : Parts). IsJournal x s' n' text' journal) c
    (subst (λ (x : InputVectors). IsJournal core x n' text' journal) r
    (subst (λ (x : ℕ). IsJournal core s x text' journal) l
    (subst (λ (x : List ℕ). IsJournal core s n x journal) t is)))

pub malformed-at : (core core' : Parts) (s s' : InputVectors) (n n' : ℕ) (text text' : List ℕ) (fault : Fault) → core ≡ core' → s ≡ s' → n ≡ n' → text ≡ text' → IsFirstMalformed core s n text fault → IsFirstMalformed core' s' n' text' fault
malformed-at core core' s s' n n' text text' fault c r l t is =
    subst (λ (x : Parts). IsFirstMalformed x s' n' text' fault) c
    (subst (λ (x : InputVectors). IsFirstMalformed core x n' text' fault) r
    (subst (λ (x : ℕ). IsFirstMalformed core s x text' fault) l
    (subst (λ (x : List ℕ). IsFirstMalformed core s n x fault) t is)))

-- what a recheck of a lowered design gives, where it was made on an equal design and an equal stimulus
module _ (core core' : Parts) (s s' : InputVectors) (same : core' ≡ core) (given : s' ≡ s) (cycles : ℕ) (journal : Journal) (r : Result (List Row) Refusal) where
  pub good-at : IfOk r (λ rows. IsGood core' s' cycles journal) → IfOk r (λ rows. IsGood core s cycles journal)
  good-at h = subst (λ (x : Parts). IfOk r (λ rows. IsGood x s cycles journal)) same (subst (λ (x : InputVectors). IfOk r (λ rows. IsGood core' x cycles journal)) given h)

  pub fault-at : IfFault r (λ fault. IsFirstJournalFault core' s' cycles journal fault) → IfFault r (λ fault. IsFirstJournalFault core s cycles journal fault)
  fault-at h = subst (λ (x : Parts). IfFault r (λ fault. IsFirstJournalFault x s cycles journal fault)) same (subst (λ (x : InputVectors). IfFault r (λ fault. IsFirstJournalFault core' x cycles journal fault)) given h)

  module _ (d : Checked) (lowered : IsLowered d core) (valid : IsValid core) (fits : s.widths ≡ typed_input_widths d) (always : AlwaysFits s) (run : IfOk r (λ rows. rows ≡ core_run.run_of core' (inputs_of s') cycles)) where
    pub run-at : IfOk r (λ rows. rows ≡ run_of d (inputs_of s) cycles)
    run-at =
        if_ok r (λ rows. rows ≡ core_run.run_of core' (inputs_of s') cycles) (λ rows. rows ≡ run_of d (inputs_of s) cycles)
        (λ rows is. is ∙ ap₂ (λ (x : Parts) (y : InputVectors). core_run.run_of x (inputs_of y) cycles) same given ∙ same-rows d core lowered valid s fits always cycles) run

    pub fit-at : (shape : Shape) → shape ≡ shape_of d → IfOk r (RowsFit shape)
    fit-at shape is =
        if_ok r (λ rows. rows ≡ run_of d (inputs_of s) cycles) (RowsFit shape)
        (λ rows same-run. subst (RowsFit shape) (sym same-run) (subst (λ (x : Shape). RowsFit x (run_of d (inputs_of s) cycles)) (sym is) (typed-fit d core lowered valid s fits always cycles))) run-at

-- a run has its first row
pub some-row : (d : Checked) (inputs : InputsByCycle) (cycles : ℕ) (rows : List Row) → rows ≡ run_of d inputs cycles → 0 < length rows
some-row d inputs cycles rows is = subst (λ (all : List Row). 0 < length all) (sym is) (omega arith)

-- a form that shows reports tells nothing after the last batch
no-ending : (form : Form) → shown_by_form form ≡ Report → ending_of_form form ≡ []
no-ending OfReport is = refl
no-ending (OfSummary tally) is = let same : ◌≡◌ {A = Shown} Summary Report = cc in absurd cc

-- all rows in one batch
pub told-at-once : (teller next : Teller) (shape : Shape) (marks : Marks) (rows : List Row) (text ending : List ℕ) → HasRows teller shape marks [] → shown_by teller ≡ Report → TakesRows shape marks teller next rows
    → text ≡ part_of_batch (shown_by teller) shape rows 0 → ending ≡ ending_of next → text ++ ending ≡ text_of_rows Report shape marks rows
told-at-once teller next shape marks rows text ending none shown takes first last =
    let has = (takes.rows [] tt none).1 in
    ap₂ (λ (front back : List ℕ). front ++ back)
    (first ∙ ap (λ (s : Shown). part_of_batch s shape rows 0) shown)
    (last ∙ ap₂ (λ (front back : List ℕ). front ++ back) (no-ending next.form (takes.same ∙ shown)) (ap watched_text has.1))
