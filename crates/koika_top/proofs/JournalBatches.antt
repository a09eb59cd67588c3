-- Journals grow batch by batch, and each that has begun can be completed.
use Rattle.std.proofs.Common.{◌≡◌, ◌⊎◌, ◌+◌, ◌-◌, ◌<◌, ◌≤◌, ℕ, zero, suc, List, [], ◌∷◌, ◌++◌, length, append_assoc, append-nil, Ok, Err, Option, Result, refl, sym, ap, subst, ◌∙◌, inl, inr, arith, ⊎_elim}
use Rattle.std.specs.Prelude.{min}
use Rattle.std.specs.List.{AllByRecursion, flat_map}
use Rattle.std.proofs.lemmas.List.Concat.{flat_map-append}
use Rattle.std.proofs.lemmas.Bool.{cases_lt}
use Rattle.kw_bits.specs.BitVector.{BitVector}
use Rattle.typed_core.specs.Valid.{IsValid}
use Rattle.typed_core.specs.Widths.{HaveWidths, register_widths}
use Rattle.typed_core.specs.declared.design.Parts.{Parts}
use Rattle.one_rule.specs.Cycle.{System, system_of}
use Rattle.one_rule.specs.Rows.{RowsFit}
use Rattle.one_rule.specs.Run.{InputsByCycle, first_values, last_registers, rows_after, run}
use Rattle.one_rule.specs.Stimulus.{AlwaysFits, InputVectors, StimulusFits, inputs_of}
use Rattle.one_rule.specs.declared.rows.Row.{Row}
use Rattle.one_rule.proofs.Fitting.{first_values_fit}
use Rattle.attempt_log.specs.Entries.{worker_of}
use Rattle.attempt_log.specs.declared.entry.Entry.{Entry}
use Rattle.board_core.specs.Board.{Opening}
use Rattle.board_core.specs.History.{IsLegal, board_after}
use Rattle.board_core.specs.Position.{IsOpening}
use Rattle.board_core.proofs.Plain.{histories_are_plain}
use Rattle.board_lock.specs.Histories.{InRun, IsPast}
use Rattle.board_lock.proofs.Ranges.{each_of, every-append, every-map}
use Rattle.cycle_driver.proofs.Rows.{rows_fit}
use Rattle.journal_check.specs.Checking.{AreGood, IsGood, IsGoodBatch, left_by, opening_of}
use Rattle.journal_check.specs.Journals.{lines_of_batch}
use Rattle.journal_check.specs.Printing.{begin_tokens, ended, joined_tokens, journal_text, line_text, text_of}
use Rattle.journal_check.specs.declared.journal.Batch.{Batch}
use Rattle.journal_check.specs.declared.journal.Journal.{Journal}
use Rattle.koika_top.specs.Histories.{board_of}
use Rattle.koika_top.specs.inner.Histories.{IsWhole}
use Rattle.koika_top.specs.Journal.{IsJournalOf, IsMadeBy}
use Rattle.koika_top.specs.inner.Journaling.{IsBatch, WritesBatch, WritesJournal}
use Rattle.front_end.specs.Streams.{Stream}
use Rattle.front_end.specs.Told.{Told}
use Rattle.front_end.specs.declared.untold.Untold.{Untold}
use Rattle.front_end.specs.declared.untold.Untold.TheVariants as untold
use Rattle.koika_top.proofs.SomeHistories.{last_fit, some_history}
use Rattle.front_end.proofs.Told.{at, told-as, told-cut, told-none, told-so-far, told-then}

-- a batch that stands in no source yet
abbrev pub batch_of : ℕ → ℕ → List Entry → Batch
batch_of from to entries = record { from = from; to = to; line = 0; entries = entries; lines = [] }

abbrev pub journal_of : ℕ → List Batch → Journal
journal_of workers batches = record { workers = workers; line = 0; batches = batches }

-- ---- texts

flat-more : {A B C : Type 0} (f : B → List C) (g : A → List B) (head : List C) (xs ys : List A) → head ++ flat_map f (flat_map g (xs ++ ys)) ≡ (head ++ flat_map f (flat_map g xs)) ++ flat_map f (flat_map g ys)
flat-more {A} {B} {C} f g head xs ys =
    ap (λ (l : List C). head ++ l) (ap (flat_map f) (flat_map-append g xs ys) ∙ flat_map-append f (flat_map g xs) (flat_map g ys))
    ∙ sym (append_assoc head (flat_map f (flat_map g xs)) (flat_map f (flat_map g ys)))

-- the text of batches after others
pub journal_text-more : (core : Parts) (workers : ℕ) (xs ys : List Batch) → journal_text core (journal_of workers (xs ++ ys)) ≡ journal_text core (journal_of workers xs) ++ text_of core (flat_map lines_of_batch ys)
journal_text-more core workers xs ys = flat-more (λ l. ended (line_text core l)) lines_of_batch (ended (joined_tokens (begin_tokens workers))) xs ys

-- and of one batch
pub journal_text-one : (core : Parts) (workers : ℕ) (xs : List Batch) (b : Batch) → journal_text core (journal_of workers (xs ++ b ∷ [])) ≡ journal_text core (journal_of workers xs) ++ text_of core (lines_of_batch b)
journal_text-one core workers xs b =
    journal_text-more core workers xs (b ∷ [])
    ∙ ap (λ ls. journal_text core (journal_of workers xs) ++ text_of core ls) (append-nil (lines_of_batch b))

-- ---- what a history leaves

-- the rows of a history that closes all cycles are the run's
pub rows_of_history : (o : Opening) (entries : List Entry) → IsOpening o → IsLegal o entries → IsPast o entries → (board_after o entries).rows ≡ run (system_of o.design) (inputs_of o.stimulus) o.regs o.from o.to
rows_of_history o entries opening' legal past =
    let plain = histories_are_plain o entries opening' legal in
    let last : (board_after o entries).cycle - 1 ≡ o.to = omega (arith, past, plain.within) in
    plain.rows ∙ ap (run (system_of o.design) (inputs_of o.stimulus) o.regs o.from) last

pub left_fits : (o : Opening) (entries : List Entry) → IsOpening o → IsLegal o entries → IsPast o entries → HaveWidths (register_widths o.design) (left_by o entries)
left_fits o entries opening' legal past =
    last_fit o.design o.regs (board_after o entries).rows opening'.registers (subst (RowsFit o.design) (sym (rows_of_history o entries opening' legal past)) (rows_fit o opening'))

-- ---- what was written so far

module _ (core : Parts) (stimulus : InputVectors) (cycles workers : ℕ) where
  -- these batches were made and written, and left these registers
  pub record Written (from : ℕ) (regs : List BitVector) (sink : Stream) (result : Result (Unit {0}) Untold) : Type 0 where
    pub batches : List Batch
    pub goes : (rest : List Batch) → AreGood core stimulus cycles from regs rest → IsGood core stimulus cycles (journal_of workers (batches ++ rest))
    pub made : AllByRecursion (IsMadeBy core stimulus workers) batches
    pub told : Told (journal_text core (journal_of workers batches)) sink result

  -- none yet
  pub begun : (sink : Stream) (result : Result (Unit {0}) Untold) → Told (journal_text core (journal_of workers [])) sink result → Written 0 (first_values core) sink result
  begun sink result told = record { batches = []; goes = λ rest good. good; made = tt; told = told }

  -- the journal that these begin
  pub whole : (from : ℕ) (regs : List BitVector) (sink : Stream) (result : Result (Unit {0}) Untold) (w : Written from regs sink result) (rest : List Batch) → AreGood core stimulus cycles from regs rest → AllByRecursion (IsMadeBy core stimulus workers) rest
      → IsJournalOf core stimulus cycles workers (journal_of workers (w.batches ++ rest))
  whole from regs sink result w rest good made =
      record { workers_are = refl; good = w.goes rest good; made = every-append (IsMadeBy core stimulus workers) w.batches rest w.made made }

  -- all were written
  pub ends : (from : ℕ) (regs : List BitVector) (sink : Stream) (u : Unit {0}) → from ≡ cycles → Written from regs sink (Ok u) → WritesJournal core stimulus cycles workers sink (Ok u)
  ends from regs sink u all w = (
    journal_of workers (w.batches ++ []),
    whole from regs sink (Ok u) w [] all tt,
    told-as _ _ sink (Ok u) (ap (λ (bs : List Batch). journal_text core (journal_of workers bs)) (sym (append-nil w.batches))) w.told,
  )

  -- one more, which left these registers
  pub grown : (from to : ℕ) (regs left : List BitVector) (sink after : Stream) (result next : Result (Unit {0}) Untold) (w : Written from regs sink result) (b : Batch) → to ≡ min (from + 256) cycles → from < cycles
      → IsBatch core stimulus workers regs from to b → left ≡ left_by (opening_of core stimulus regs b) b.entries → Told (journal_text core (journal_of workers w.batches) ++ text_of core (lines_of_batch b)) after next → Written to left after next
  grown from to regs left sink after result next w b due less is leaves told =
      record {
        batches = w.batches ++ b ∷ [];
        goes = λ rest good.
            let here : IsGoodBatch cycles from (opening_of core stimulus regs b) b = record { due = record { begins = is.begins; ends = is.ends ∙ due; some = omega (arith, is.begins, is.ends, due, less) }; legal = is.legal; closes = is.closes } in
            let later : AreGood core stimulus cycles b.to (left_by (opening_of core stimulus regs b) b.entries) rest = subst (λ (k : ℕ). AreGood core stimulus cycles k (left_by (opening_of core stimulus regs b) b.entries) rest) (sym is.ends) (subst (λ (rs : List BitVector). AreGood core stimulus cycles to rs rest) leaves good) in
            subst (λ (bs : List Batch). IsGood core stimulus cycles (journal_of workers bs)) (sym (append_assoc w.batches (b ∷ []) rest)) (w.goes (b ∷ rest) (here, later));
        made = every-append (IsMadeBy core stimulus workers) w.batches (b ∷ []) w.made (is.made, tt);
        told = told-as _ _ after next (sym (journal_text-one core workers w.batches b)) told;
      }

-- ---- batches

module _ (core : Parts) (valid : IsValid core) (stimulus : InputVectors) (fits : StimulusFits core stimulus) (always : AlwaysFits stimulus) (cycles workers : ℕ) where
  pub is_opening : (regs : List BitVector) (b : Batch) → HaveWidths (register_widths core) regs → b.from ≤ b.to → IsOpening (opening_of core stimulus regs b)
  is_opening regs b wide order = record { design = valid; stimulus = fits; always = always; registers = wide; order = order }

  -- there is a good batch
  record Found (from : ℕ) (regs : List BitVector) : Type 0 where
    batch : Batch
    good : IsGoodBatch cycles from (opening_of core stimulus regs batch) batch
    made : IsMadeBy core stimulus workers batch
    wide : HaveWidths (register_widths core) (left_by (opening_of core stimulus regs batch) batch.entries)

  some_batch : (from : ℕ) (regs : List BitVector) → HaveWidths (register_widths core) regs → from < cycles → Found from regs
  some_batch from regs wide less =
      let to = min (from + 256) cycles in
      let o = opening_of core stimulus regs (batch_of from to []) in
      let opening' = is_opening regs (batch_of from to []) wide (omega (arith, less)) in
      let found = some_history o opening' (omega arith) in
      let batch = batch_of from to found.0 in
      record {
        batch = batch;
        good = record { due = record { begins = refl; ends = refl; some = omega (arith, less) }; legal = found.1.legal; closes = found.2 };
        made = record {
          by = each_of (λ (e : Entry). worker_of e ≤ workers) found.0 (every-map (λ (e : Entry). worker_of e ≡ 0) (λ (e : Entry). worker_of e ≤ workers) found.0 (λ e is. omega (arith, is)) found.1.by);
          in_run = each_of (InRun (opening_of core stimulus [] batch)) found.0 found.1.in_run;
        };
        wide = left_fits o found.0 opening' found.1.legal found.2;
      }

  -- the batches that are left
  record Rest (from : ℕ) (regs : List BitVector) : Type 0 where
    pub batches : List Batch
    pub good : AreGood core stimulus cycles from regs batches
    pub made : AllByRecursion (IsMadeBy core stimulus workers) batches

  rest_by : (fuel from : ℕ) (regs : List BitVector) → HaveWidths (register_widths core) regs → from ≤ cycles → cycles ≤ from + fuel → Rest from regs
  rest_by zero from regs wide within few = record { batches = []; good = omega (arith, within, few); made = tt }
  rest_by (suc fuel) from regs wide within few =
      ⊎_elim
      (λ less.
      let s = some_batch from regs wide less in
      let ends = s.good.due.ends in
      let rest = rest_by fuel s.batch.to (left_by (opening_of core stimulus regs s.batch) s.batch.entries) s.wide (omega (arith, ends)) (omega (arith, ends, less, few)) in
      record { batches = s.batch ∷ rest.batches; good = (s.good, rest.good); made = (s.made, rest.made) })
      (λ all. record { batches = []; good = omega (arith, all, within); made = tt })
      (cases_lt from cycles)

  -- no more were written
  pub fails : (from : ℕ) (regs : List BitVector) (sink : Stream) (e : Untold) → HaveWidths (register_widths core) regs → from ≤ cycles → Written core stimulus cycles workers from regs sink (Err e) → WritesJournal core stimulus cycles workers sink (Err e)
  fails from regs sink e wide within w =
      let rest = rest_by cycles from regs wide within (omega arith) in (
        journal_of workers (w.batches ++ rest.batches),
        whole core stimulus cycles workers from regs sink (Err e) w rest.batches rest.good rest.made,
        told-as _ _ sink (Err e) (sym (journal_text-more core workers w.batches rest.batches)) (told-cut _ _ sink e w.told),
      )

  -- ---- calls that wrote, one after another

  -- nothing was written, since memory ran out
  pub unbegun : (a : Option (List ℕ)) (n : ℕ) → WritesJournal core stimulus cycles workers (at a a n n) (Err untold.NoMemory)
  unbegun a n = fails 0 (first_values core) (at a a n n) untold.NoMemory (first_values_fit core valid) (omega arith) (begun core stimulus cycles workers (at a a n n) (Err untold.NoMemory) (told-none _ a n))

  -- the first line was
  pub opened : (text : List ℕ) (sink : Stream) (result : Result (Unit {0}) Untold) → text ≡ ended (joined_tokens (begin_tokens workers)) → Told text sink result → Written core stimulus cycles workers 0 (first_values core) sink result
  opened text sink result is told = begun core stimulus cycles workers sink result (told-as _ _ sink result (is ∙ sym (append-nil (ended (joined_tokens (begin_tokens workers))))) told)

  pub opened_on : (text : List ℕ) (regs : List BitVector) (sink : Stream) (result : Result (Unit {0}) Untold) → text ≡ ended (joined_tokens (begin_tokens workers)) → regs ≡ first_values core → Told text sink result → Written core stimulus cycles workers 0 regs sink result
  opened_on text regs sink result is same told = subst (λ (rs : List BitVector). Written core stimulus cycles workers 0 rs sink result) (sym same) (opened text sink result is told)

  -- its first bytes
  pub opened_front : (text : List ℕ) (sink : Stream) (e : Untold) → text ≡ ended (joined_tokens (begin_tokens workers)) → Told text sink (Err e) → WritesJournal core stimulus cycles workers sink (Err e)
  opened_front text sink e is told = fails 0 (first_values core) sink e (first_values_fit core valid) (omega arith) (opened text sink (Err e) is told)

  -- and then memory ran out
  pub opened_only : (text : List ℕ) (sink : Stream) (u : Unit {0}) → text ≡ ended (joined_tokens (begin_tokens workers)) → Told text sink (Ok u) → WritesJournal core stimulus cycles workers sink (Err untold.NoMemory)
  opened_only text sink u is told = opened_front text sink untold.NoMemory is (told-as _ _ sink (Err untold.NoMemory) (append-nil text) (told-so-far text [] sink u told))

  module _ (from to : ℕ) (regs : List BitVector) (wide : HaveWidths (register_widths core) regs) (due : to ≡ min (from + 256) cycles) (less : from < cycles) (a b d : Option (List ℕ)) (l m n : ℕ) (u : Unit {0}) (so_far : Written core stimulus cycles workers from regs (at a b l m) (Ok u)) where
    -- a batch was written after these
    pub goes_on : (left : List BitVector) → WritesBatch core stimulus workers regs from to (at b d m n) (Ok left) → Written core stimulus cycles workers to left (at a d l n) (Ok u)
    goes_on left (inl (batch, is, told, leaves)) =
        grown core stimulus cycles workers from to regs left (at a b l m) (at a d l n) (Ok u) (Ok u) so_far batch due less is leaves (told-then _ _ a b d l m n u (Ok tt) so_far.told told)
    goes_on left (inr (bad, told)) = absurd cc

    -- its first bytes
    pub stops : (e : Untold) → WritesBatch core stimulus workers regs from to (at b d m n) (Err e) → WritesJournal core stimulus cycles workers (at a d l n) (Err e)
    stops e (inl (batch, is, told, none)) =
        let o = opening_of core stimulus regs batch in
        let order : batch.from ≤ batch.to = omega (arith, is.begins, is.ends, due, less) in
        fails to (left_by o batch.entries) (at a d l n) e (left_fits o batch.entries (is_opening regs batch wide order) is.legal is.closes) (omega (arith, due))
        (grown core stimulus cycles workers from to regs (left_by o batch.entries) (at a b l m) (at a d l n) (Ok u) (Err e) so_far batch due less is refl (told-then _ _ a b d l m n u (Err e) so_far.told told))
    stops e (inr (none, told)) =
        fails from regs (at a d l n) e wide (omega (arith, less))
        (record {
          batches = so_far.batches;
          goes = so_far.goes;
          made = so_far.made;
          told = told-as _ _ (at a d l n) (Err e) (append-nil (journal_text core (journal_of workers so_far.batches))) (told-then _ [] a b d l m n u (Err e) so_far.told told);
        })

-- ---- what workers made

-- a run has a row for its start
pub some-row : (system : System) (inputs : InputsByCycle) (regs : List BitVector) (from to : ℕ) (rows : List Row) → rows ≡ run system inputs regs from to → 0 < length rows
some-row system inputs regs from to rows is = let count : length rows ≡ length (rows_after system inputs (to - from) from regs) + 1 = ap length is ∙ omega arith in omega (arith, count)

module _ (core : Parts) (stimulus : InputVectors) (workers : ℕ) (regs : List BitVector) (from to : ℕ) (opening' : IsOpening (board_of core stimulus regs from to)) (entries : List Entry) (done : IsWhole workers (board_of core stimulus regs from to) entries) (rows : List Row) (is : rows ≡ run (system_of core) (inputs_of stimulus) regs from to) where
  -- is such a batch
  made_is : (batch : Batch) → batch ≡ batch_of from to entries → IsBatch core stimulus workers regs from to batch
  made_is batch same =
      let here : IsBatch core stimulus workers regs from to (batch_of from to entries) = record { begins = refl; ends = refl; legal = done.legal; closes = done.closes; made = record { by = done.by; in_run = done.in_run } } in
      subst (IsBatch core stimulus workers regs from to) (sym same) here

  -- its last row has the registers that it leaves
  left_is : (batch : Batch) → batch ≡ batch_of from to entries → last_registers [] rows ≡ left_by (opening_of core stimulus regs batch) batch.entries
  left_is batch same =
      ap (last_registers []) is ∙ sym (ap (last_registers regs) (rows_of_history (board_of core stimulus regs from to) entries opening' done.legal done.closes))
      ∙ ap (λ (b : Batch). left_by (opening_of core stimulus regs b) b.entries) (sym same)

  -- they fit
  pub left_wide : (left : List BitVector) → left ≡ last_registers [] rows → HaveWidths (register_widths core) left
  left_wide left same =
      subst (HaveWidths (register_widths core)) (sym (same ∙ left_is (batch_of from to entries) refl)) (left_fits (board_of core stimulus regs from to) entries opening' done.legal done.closes)

  -- its lines were written
  pub wrote : (batch : Batch) (left : List BitVector) (text : List ℕ) (sink : Stream) (u : Unit {0}) → batch ≡ batch_of from to entries → left ≡ last_registers [] rows → text ≡ text_of core (lines_of_batch batch) → Told text sink (Ok u) → WritesBatch core stimulus workers regs from to sink (Ok left)
  wrote batch left text sink u same leaves shown told = inl (batch, made_is batch same, told-as _ _ sink (Ok u) shown told, leaves ∙ left_is batch same)

  -- or their first bytes
  pub wrote_front : (batch : Batch) (text : List ℕ) (sink : Stream) (e : Untold) → batch ≡ batch_of from to entries → text ≡ text_of core (lines_of_batch batch) → Told text sink (Err e) → WritesBatch core stimulus workers regs from to sink (Err e)
  wrote_front batch text sink e same shown told = inl (batch, made_is batch same, told-as _ _ sink (Err e) shown told, tt)
