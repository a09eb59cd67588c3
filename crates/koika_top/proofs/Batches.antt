-- A run that is told batch by batch: what is told so far, and what is left.
use Rattle.std.proofs.Common.{◌≡◌, ◌≢◌, ℕ, zero, suc, ◌+◌, ◌<◌, ◌≤◌, Bool, true, false, List, [], ◌∷◌, ◌++◌, length, take, drop, Option, Result, Ok, Err, refl, sym, ap, subst, ◌∙◌, append_assoc, arith}
use Rattle.std.proofs.lemmas.List.{drop-drop, length-drop, take-append-drop}
use Rattle.std.specs.List.{AllByRecursion}
use Rattle.one_rule.specs.declared.rows.Row.{Row}
use Rattle.stim_report.specs.Batches.{joined, last_cycle}
use Rattle.stim_report.specs.Report.{report, report_part}
use Rattle.stim_report.specs.Shapes.{RowsFit}
use Rattle.stim_report.specs.Summary.{summary, totals_of, totals_text}
use Rattle.stim_report.specs.declared.shape.Shape.{Shape}
use Rattle.stim_report.proofs.BatchesJoined.{parts_join}
use Rattle.koika_assert.specs.Violations.{violations, watched, watched_text}
use Rattle.koika_top.specs.inner.Engines.{AreRows}
use Rattle.front_end.specs.Marks.{Marks}
use Rattle.front_end.specs.Streams.{Stream}
use Rattle.koika_top.specs.inner.Telling.{FormGoesOn, FormHasRows, GoesOnFrom, HasRows, TakesRows, all_told, ending_of, ending_of_form, part_of_batch, shown_by, shown_by_form, told_of, writes_rows}
use Rattle.front_end.specs.Told.{Told}
use Rattle.koika_top.specs.Sim.{rows_text}
use Rattle.koika_top.specs.declared.shown.Shown.{Shown}
use Rattle.koika_top.specs.declared.shown.Shown.TheVariants.{Report, Summary}
use Rattle.koika_top.specs.declared.teller.Form.{Form}
use Rattle.koika_top.specs.declared.teller.Form.TheVariants.{OfReport, OfSummary}
use Rattle.koika_top.specs.declared.teller.Teller.{Teller}
use Rattle.front_end.specs.declared.untold.Untold.{Untold}
use Rattle.front_end.specs.declared.untold.Untold.TheVariants as untold
use Rattle.koika_top.proofs.MachineRows.{drop-none}
use Rattle.front_end.proofs.Told.{at, told-as, told-cut, told-so-far, told-then}

-- ---- rows in two parts

joined-after : (rows batch : List Row) → 1 ≤ length rows → joined rows batch ≡ rows ++ drop 1 batch
joined-after [] batch some = absurd (omega (arith, some))
joined-after (row ∷ rows) batch some = refl

drop-each : (P : Row → Type 0) (count : ℕ) (rows : List Row) → AllByRecursion P rows → AllByRecursion P (drop count rows)
drop-each P zero [] all = all
drop-each P zero (row ∷ rows) all = all
drop-each P (suc count) [] all = all
drop-each P (suc count) (row ∷ rows) all = drop-each P count rows all.1

-- the rows of a batch from the cycle up to which an engine has run
pub batch-is : (rows : ℕ → List Row) (at from to : ℕ) (batch : List Row) → at ≡ from → batch ≡ drop at (rows to) → batch ≡ drop from (rows to)
batch-is rows at from to batch stands is = is ∙ ap (λ (k : ℕ). drop k (rows to)) stands

module _ (rows : ℕ → List Row) (run : AreRows rows) where
  some-rows : (k : ℕ) → 1 ≤ length (rows k)
  some-rows k = omega (arith, run.count k)

  -- the rows so far and those of the next batch
  pub rows-joined : (from to : ℕ) → from ≤ to → joined (rows from) (drop from (rows to)) ≡ rows to
  rows-joined from to up =
      joined-after (rows from) (drop from (rows to)) (some-rows from)
      ∙ ap (λ (front : List Row). front ++ drop 1 (drop from (rows to))) (run.front from to up)
      ∙ ap (λ (rest : List Row). take (from + 1) (rows to) ++ rest) (drop-drop 1 from (rows to))
      ∙ take-append-drop (from + 1) (rows to)

  pub last_cycle-rows : (k : ℕ) → last_cycle (rows k) ≡ k
  last_cycle-rows k = omega (arith, run.count k)

  -- a batch has rows
  pub batch-some : (from to : ℕ) → from ≤ to → (batch : List Row) → batch ≡ drop from (rows to) → 1 ≤ length batch
  batch-some from to up batch is =
      let lost = length-drop from (rows to) in
      omega (arith, ap length is, lost, run.count to, up)

  not_one_row : (k : ℕ) → 1 ≤ k → length (rows k) ≢ 1
  not_one_row k h e = omega (arith, h, e, run.count k)

  -- what is told of the rows of two parts
  told-next : (shown : Shown) (shape : Shape) (from to : ℕ) → 1 ≤ from → from ≤ to
      → told_of shown shape (rows from) ++ part_of_batch shown shape (drop from (rows to)) from ≡ told_of shown shape (rows to)
  told-next Report shape from to low h =
      ap (λ n. report shape (rows from) ++ report_part shape (drop from (rows to)) n) (sym (last_cycle-rows from))
      ∙ parts_join shape (rows from) (drop from (rows to)) (not_one_row from low)
      ∙ ap (report shape) (rows-joined from to h)
  told-next Summary shape from to low h = refl

  -- what was told up to a cycle is the first part of all
  rest-after : (shown : Shown) (shape : Shape) (marks : Marks) (from n : ℕ) → (from ≡ 0 → n ≡ 0) → from ≤ n
      → (rest : List ℕ) × (told_of shown shape (rows from) ++ rest ≡ all_told shown shape marks (rows n))
  rest-after Report shape marks zero n none h =
      let last = violations marks.names marks.rules (rows n) in
      (last, ap (λ k. report shape (rows k) ++ last) (sym (none refl)))
  rest-after Report shape marks (suc from) n none h =
      let last = violations marks.names marks.rules (rows n) in
      let part = report_part shape (drop (suc from) (rows n)) (suc from) in
      (part ++ last, sym (append_assoc (report shape (rows (suc from))) part last) ∙ ap (λ l. l ++ last) (told-next Report shape (suc from) n (omega arith) h))
  rest-after Summary shape marks from n none h = (summary shape (rows n) ++ violations marks.names marks.rules (rows n), refl)

-- what is told first of all is what is told of the first batch
told-first : (shown : Shown) (shape : Shape) (rows : List Row) → part_of_batch shown shape rows 0 ≡ told_of shown shape rows
told-first Report shape rows = refl
told-first Summary shape rows = refl

-- and where nothing is written before the last batch, it is nothing
pub no-part : (shown : Shown) (shape : Shape) (batch : List Row) (from : ℕ) → writes_rows shown ≡ false → part_of_batch shown shape batch from ≡ []
no-part Report shape batch from none = let no : true ≡ false = none in absurd cc
no-part Summary shape batch from none = refl

-- what is told, and the ending after it, are all that is told
form-whole : (form : Form) (shape : Shape) (rows : List Row) (more : List ℕ) → FormHasRows form shape rows
    → told_of (shown_by_form form) shape rows ++ (ending_of_form form ++ more) ≡ rows_text (shown_by_form form) shape rows ++ more
form-whole OfReport shape rows more h = refl
form-whole (OfSummary tally) shape rows more h = ap (λ t. totals_text t ++ more) h

told-whole : (teller : Teller) (shape : Shape) (marks : Marks) (rows : List Row) → HasRows teller shape marks rows → told_of (shown_by teller) shape rows ++ ending_of teller ≡ all_told (shown_by teller) shape marks rows
told-whole teller shape marks rows h =
    form-whole teller.form shape rows (watched_text teller.watch) h.0
    ∙ ap (λ known. rows_text (shown_by teller) shape rows ++ watched_text known) h.1

-- a teller goes on from the cycle that its rows end with
form-goes-on : (form : Form) (shape : Shape) (rows : List Row) (from : ℕ) → FormHasRows form shape rows → last_cycle rows ≡ from → FormGoesOn form shape from
unfolding totals_of
form-goes-on OfReport shape rows from h e = tt
form-goes-on (OfSummary tally) shape rows from h e = (ap (λ t. t.registers) h, ap (λ t. t.rules) h, ap (λ t. t.cycles) h ∙ e)

pub goes-on : (teller : Teller) (shape : Shape) (marks : Marks) (rows : List Row) (from : ℕ) → HasRows teller shape marks rows → last_cycle rows ≡ from → GoesOnFrom teller shape from
unfolding watched
goes-on teller shape marks rows from h e = (form-goes-on teller.form shape rows from h.0 e, ap (λ known. known.cycles) h.1 ∙ e)

-- rows that fit are still so where the first ones are left out
pub batch-fits : (shape : Shape) (rows batch : List Row) (from : ℕ) → RowsFit shape rows → batch ≡ drop from rows → RowsFit shape batch
batch-fits shape rows batch from fit is = subst (RowsFit shape) (sym is) (drop-each _ from rows fit)

all-append : (P : Row → Type 0) (xs ys : List Row) → AllByRecursion P xs → AllByRecursion P ys → AllByRecursion P (xs ++ ys)
all-append P [] ys h k = k
all-append P (x ∷ xs) ys h k = (h.0, all-append P xs ys h.1 k)

-- rows that fit, and a batch of such rows after them
pub joined-fit : (shape : Shape) (before batch : List Row) → RowsFit shape before → RowsFit shape batch → RowsFit shape (joined before batch)
joined-fit shape [] batch fit more = more
joined-fit shape (row ∷ rows) [] fit more = all-append _ (row ∷ rows) [] fit more
joined-fit shape (row ∷ rows) (first ∷ batch) fit more = all-append _ (row ∷ rows) batch fit more.1

-- where a run isn't over, it has begun
pub begun : (from cycles : ℕ) → (from ≡ 0 → cycles ≡ 0) → from < cycles → 1 ≤ from
begun zero cycles none h = absurd (omega (arith, h, none refl))
begun (suc from) cycles none h = omega arith

-- ---- what is written of a run

module _ (rows : ℕ → List Row) (run : AreRows rows) (shown : Shown) (shape : Shape) (marks : Marks) where
  abbrev told_to : ℕ → List ℕ
  told_to k = told_of shown shape (rows k)

  abbrev told_at : ℕ → List ℕ
  told_at n = all_told shown shape marks (rows n)

  part-first : (s : Shown) (to : ℕ) → s ≡ shown → part_of_batch s shape (drop 0 (rows to)) 0 ≡ told_to to
  part-first s to is = ap (λ t. part_of_batch t shape (drop 0 (rows to)) 0) is ∙ ap (λ b. part_of_batch shown shape b 0) (drop-none (rows to)) ∙ told-first shown shape (rows to)

  -- a first part that is some of all
  cut : (from n : ℕ) → (from ≡ 0 → n ≡ 0) → from ≤ n → (st : Stream) (e : Untold) → Told (told_to from) st (Err e) → Told (told_at n) st (Err e)
  cut from n none h st e told = let rest = rest-after rows run shown shape marks from n none h in told-as _ _ st (Err e) rest.1 (told-cut (told_to from) rest.0 st e told)

  -- the first batch
  pub first-told : (s : Shown) (to : ℕ) → s ≡ shown → (st : Stream) (r : Result (Unit {0}) Untold) → Told (part_of_batch s shape (drop 0 (rows to)) 0) st r → Told (told_to to) st r
  first-told s to is st r told = told-as _ _ st r (part-first s to is) told

  pub first-cut : (s : Shown) (to n : ℕ) → s ≡ shown → (to ≡ 0 → n ≡ 0) → to ≤ n → (st : Stream) (e : Untold) → Told (part_of_batch s shape (drop 0 (rows to)) 0) st (Err e) → Told (told_at n) st (Err e)
  first-cut s to n is none h st e told = cut to n none h st e (first-told s to is st (Err e) told)

  pub first-has : (old new : Teller) (to : ℕ) → TakesRows shape marks old new (drop 0 (rows to)) → HasRows old shape marks [] → HasRows new shape marks (rows to)
  first-has old new to takes has = subst (HasRows new shape marks) (drop-none (rows to)) (takes.rows [] tt has).1

  -- the next batch, of an engine whose rows are these
  module _ (own : ℕ → List Row) (same : own ≡ rows) (from to : ℕ) (up : from ≤ to) where
    part-next : (s : Shown) → 1 ≤ from → s ≡ shown → told_to from ++ part_of_batch s shape (drop from (own to)) from ≡ told_to to
    part-next s low is =
        ap (λ t. told_to from ++ part_of_batch t shape (drop from (own to)) from) is
        ∙ ap (λ (all : ℕ → List Row). told_to from ++ part_of_batch shown shape (drop from (all to)) from) same
        ∙ told-next rows run shown shape from to low up

    pub next-told : (s : Shown) → 1 ≤ from → s ≡ shown → (a b c : Option (List ℕ)) (l m k : ℕ) (u : Unit {0}) (r : Result (Unit {0}) Untold)
        → Told (told_to from) (at a b l m) (Ok u) → Told (part_of_batch s shape (drop from (own to)) from) (at b c m k) r → Told (told_to to) (at a c l k) r
    next-told s low is a b c l m k u r one two = told-as _ _ (at a c l k) r (part-next s low is) (told-then _ _ a b c l m k u r one two)

    pub next-cut : (s : Shown) → 1 ≤ from → s ≡ shown → (n : ℕ) → to ≤ n → (a b c : Option (List ℕ)) (l m k : ℕ) (u : Unit {0}) (e : Untold)
        → Told (told_to from) (at a b l m) (Ok u) → Told (part_of_batch s shape (drop from (own to)) from) (at b c m k) (Err e) → Told (told_at n) (at a c l k) (Err e)
    next-cut s low is n h a b c l m k u e one two =
        cut to n (λ none. absurd (omega (arith, none, low, up))) h (at a c l k) e (next-told s low is a b c l m k u (Err e) one two)

    pub next-has : (old new : Teller) → TakesRows shape marks old new (drop from (own to)) → RowsFit shape (rows from) → HasRows old shape marks (rows from) → HasRows new shape marks (rows to)
    next-has old new takes fit has =
        let takes' = subst (λ (all : ℕ → List Row). TakesRows shape marks old new (drop from (all to))) same takes in
        subst (HasRows new shape marks) (rows-joined rows run from to up) (takes'.rows (rows from) fit has).1

  -- all batches, and then memory ran out
  pub ending-cut : (from n : ℕ) → (from ≡ 0 → n ≡ 0) → from ≤ n → (st : Stream) (u : Unit {0}) → Told (told_to from) st (Ok u) → Told (told_at n) st (Err untold.NoMemory)
  ending-cut from n none h st u told =
      let rest = rest-after rows run shown shape marks from n none h in
      told-as _ _ st (Err untold.NoMemory) rest.1 (told-so-far (told_to from) rest.0 st u told)

  -- all batches and the ending
  whole : (teller : Teller) (n : ℕ) (text : List ℕ) → shown_by teller ≡ shown → HasRows teller shape marks (rows n) → text ≡ ending_of teller → told_to n ++ text ≡ told_at n
  whole teller n text kind has is =
      ap (λ l. told_to n ++ l) is
      ∙ subst (λ s. told_of s shape (rows n) ++ ending_of teller ≡ all_told s shape marks (rows n)) kind (told-whole teller shape marks (rows n) has)

  pub ending-told : (teller : Teller) (from n : ℕ) (text : List ℕ) → from ≡ n → shown_by teller ≡ shown → HasRows teller shape marks (rows from) → text ≡ ending_of teller
      → (a b c : Option (List ℕ)) (l m k : ℕ) (u : Unit {0}) (r : Result (Unit {0}) Untold) → Told (told_to from) (at a b l m) (Ok u) → Told text (at b c m k) r → Told (told_at n) (at a c l k) r
  ending-told teller from n text e kind has is a b c l m k u r one two =
      told-as _ _ (at a c l k) r (whole teller from text kind has is ∙ ap (λ k. told_at k) e) (told-then (told_to from) text a b c l m k u r one two)
