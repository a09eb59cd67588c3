-- Entries that a core makes one after another are a legal history, which leaves the core.
use Rattle.std.proofs.Common.{◌≡◌, ◌≢◌, ℕ, ◌+◌, ◌-◌, ◌<◌, ◌≤◌, List, [], ◌∷◌, ◌++◌, length, get_or, take, drop, refl, sym, ap, ◌∙◌, subst, inl, inr, arith}
use Rattle.std.specs.Prelude.{◌↔◌, IsTrue, nat_eq, slice_index_or}
use Rattle.std.specs.List.{AllByRecursion}
use Rattle.std.proofs.lemmas.Bool.{eq-eqb, eqb-true}
use Rattle.std.proofs.lemmas.List.{drop_more, get_or_read, length-take-le, take-append-drop, take_all, take_more}
use Rattle.kw_base.specs.declared.fault.Fault.{Fault}
use Rattle.kw_bits.specs.BitVector.{BitVector}
use Rattle.typed_core.specs.Widths.{HaveWidths, input_widths}
use Rattle.typed_core.specs.declared.access.Event.{Event}
use Rattle.typed_core.specs.declared.design.Parts.{Parts}
use Rattle.typed_core.specs.declared.outcome.Outcome.{Outcome}
use Rattle.typed_core.proofs.Equal.{SameDesign-refl}
use Rattle.one_rule.specs.Cycle.{system_of}
use Rattle.one_rule.specs.Stimulus.{inputs_of}
use Rattle.one_rule.proofs.Runs.{rows_are_cycles}
use Rattle.attempt_log.specs.Attempt.{Attempted}
use Rattle.attempt_log.specs.Entries.{taken_of}
use Rattle.attempt_log.specs.Setting.{IsFor}
use Rattle.attempt_log.specs.Trace.{IsTrace}
use Rattle.attempt_log.specs.declared.entry.Entry.{Entry}
use Rattle.attempt_log.specs.declared.entry.Entry.TheVariants as entry
use Rattle.attempt_log.specs.declared.entry.Settled.{Settled}
use Rattle.attempt_log.specs.declared.entry.Submitted.{Submitted}
use Rattle.attempt_log.specs.declared.entry.Taken.{Taken}
use Rattle.attempt_log.proofs.Alike.{same_by_equal}
use Rattle.board_core.specs.Board.{Board, Opening, opened, setting_of, settle, step, submit}
use Rattle.board_core.specs.History.{GoesOn, IsLegal, Settle, Submit, SubmitsFor, board_after, event_of, told_by, told_of}
use Rattle.board_core.specs.Kept.{AtPlain, Does, Kept, StandsFor}
use Rattle.board_core.specs.Laws.{IsTraced}
use Rattle.board_core.specs.Position.{IsOpening}
use Rattle.board_core.specs.declared.event.BoardAnswer.TheVariants as answer
use Rattle.board_core.specs.declared.event.BoardEvent.{BoardEvent}
use Rattle.board_core.specs.declared.event.BoardEvent.TheVariants as event
use Rattle.board_core.proofs.Histories.{legal_goes_on}
use Rattle.board_core.proofs.Legal.{traces_submit}
use Rattle.journal_check.specs.Checking.{Closes, IsFirstWrong, IsWrongEntry, SubmitsRule, at_line}
use Rattle.journal_check.specs.declared.journal.Batch.{Batch}
use Rattle.journal_check.specs.inner.Replaying.{Answers, AnswersOtherwise, IsFaultAt, IsWrongAt, Leaves, Makes, run_in}

-- ---- what an entry submits

-- the stimulus's inputs have the widths of the design's
pub inputs_fit : (k : Kept) (design : Parts) (inputs : List BitVector) (cycle : ℕ) → AtPlain k → k.opening.design ≡ design → inputs ≡ inputs_of k.opening.stimulus cycle → HaveWidths (input_widths design) inputs
inputs_fit k design inputs cycle plain same is =
    let fit : HaveWidths k.opening.stimulus.widths (inputs_of k.opening.stimulus cycle) = plain.opening.always cycle in
    let here : HaveWidths (input_widths k.opening.design) (inputs_of k.opening.stimulus cycle) = subst (λ (widths : List ℕ). HaveWidths widths (inputs_of k.opening.stimulus cycle)) plain.opening.stimulus fit in
    subst (λ (d : Parts). HaveWidths (input_widths d) inputs) same (subst (HaveWidths (input_widths k.opening.design)) (sym is) here)

-- a trace may be submitted
pub submits_for : (o : Opening) → IsOpening o → (e : Entry) → IsTraced o e → SubmitsFor o (event_of o.design e)
submits_for o opening (entry.Submit worker cycle rule inputs events outcome answer) traced =
    let a : Attempted = record { design = o.design; cycle = cycle; rule = rule; inputs = inputs; run = record { events = events; outcome = outcome } } in
    traces_submit o a opening (record { design = SameDesign-refl o.design; inputs = traced.1 }) traced.0 traced.2
submits_for o opening (entry.Settle worker answer) traced = tt

-- the attempt of an entry, at a design
abbrev pub attempted : Parts → ℕ → ℕ → List BitVector → List Event → Outcome → Attempted
attempted design cycle rule inputs events outcome =
    record { design = design; cycle = cycle; rule = rule; inputs = inputs; run = record { events = events; outcome = outcome } }

-- an entry that submits at a rule of the core's design, with the stimulus's inputs
module _ (k : Kept) (design : Parts) (worker cycle rule : ℕ) (inputs : List BitVector) (events : List Event) (outcome : Outcome) (taken : Taken)
    (same : k.opening.design ≡ design) (fit : SubmitsRule design k.opening.stimulus (entry.Submit worker cycle rule inputs events outcome taken)) where
  abbrev submits : Entry
  submits = entry.Submit worker cycle rule inputs events outcome taken

  -- its attempt is for the board
  pub attempt_is_for : (a : Attempted) → a ≡ attempted design cycle rule inputs events outcome → IsFor (setting_of k.opening) a
  attempt_is_for a is = subst (IsFor (setting_of k.opening)) (sym is) (record { design = same_by_equal design k.opening.design (sym same); inputs = fit.1 })

  traced_at : IsTrace design rule inputs (record { events = events; outcome = outcome }) → IsTraced k.opening submits
  traced_at trace = subst (λ (d : Parts). (rule < length d.rules) × (inputs ≡ inputs_of k.opening.stimulus cycle) × IsTrace d rule inputs (record { events = events; outcome = outcome })) (sym same) (fit.0, fit.1, trace)

  event_is : (a : Attempted) → a ≡ attempted design cycle rule inputs events outcome → event.Submit a ≡ event_of k.opening.design submits
  event_is a is = ap event.Submit (is ∙ ap (λ (d : Parts). attempted d cycle rule inputs events outcome) (sym same))

  -- it is made where the core answers so
  pub submit_made : (new : Kept) (a : Attempted) → AtPlain k → a ≡ attempted design cycle rule inputs events outcome → IsTrace design rule inputs (record { events = events; outcome = outcome }) → Answers k (event.Submit a) (Submit taken) new → Makes k submits new
  submit_made new a plain is trace answers = record {
    attempt = submits_for k.opening plain.opening submits (traced_at trace);
    answers = subst (λ (v : BoardEvent). Answers k v (Submit taken) new) (event_is a is) answers;
  }

  -- it is wrong where the core answers otherwise
  pub submit_wrong : (a : Attempted) (line : ℕ) (fault : Fault) → a ≡ attempted design cycle rule inputs events outcome → IsTrace design rule inputs (record { events = events; outcome = outcome })
      → (fault ≡ at_line 82 line) × AnswersOtherwise k (event.Submit a) (Submit taken) → IsFaultAt k submits line fault
  submit_wrong a line fault is trace wrong =
      (82, wrong.0, inr (refl, traced_at trace, subst (λ (v : BoardEvent). AnswersOtherwise k v (Submit taken)) (event_is a is) wrong.1))

  -- it is wrong where its attempt is no trace
  pub no_trace : (line : ℕ) → (IsTrace design rule inputs (record { events = events; outcome = outcome }) → ⊥) → IsFaultAt k submits line (at_line 81 line)
  no_trace line untrue = (81, refl, inl (refl, λ traced. untrue (subst (λ (d : Parts). IsTrace d rule inputs (record { events = events; outcome = outcome })) same traced.2)))

-- an entry that settles
pub settle_made : (k new : Kept) (worker : ℕ) (told : Settled) → Answers k event.Settle (Settle told) new → Makes k (entry.Settle worker told) new
settle_made k new worker told answers = record { attempt = tt; answers = answers }

pub settle_wrong : (k : Kept) (worker : ℕ) (told : Settled) (line : ℕ) (fault : Fault) → (fault ≡ at_line 82 line) × AnswersOtherwise k event.Settle (Settle told) → IsFaultAt k (entry.Settle worker told) line fault
settle_wrong k worker told line fault wrong = (82, wrong.0, inr (refl, tt, wrong.1))

-- ---- answers of a core

pub settle_answers : (k new : Kept) (told said : Settled) → Does settle k (answer.Settle told) new → new.opening ≡ k.opening → told ≡ said → Answers k event.Settle (Settle said) new
settle_answers k new told said does same is = record {
  opening = same;
  step = λ board stands. let d = does board stands in (ap Settle (sym is) ∙ ap told_of d.0, d.1);
}

pub settle_otherwise : (k new : Kept) (told said : Settled) → Does settle k (answer.Settle told) new → (told ≡ said → ⊥) → AnswersOtherwise k event.Settle (Settle said)
settle_otherwise k new told said does differ board stands same =
    let d = does board stands in
    let both : Settle told ≡ Settle said = ap told_of d.0 ∙ sym same in
    differ cc

pub submit_answers : (k new : Kept) (a : Attempted) (told : Submitted) (said : Taken) → Does (λ o board. submit o board a) k (answer.Submit told) new → new.opening ≡ k.opening → taken_of told ≡ said → Answers k (event.Submit a) (Submit said) new
submit_answers k new a told said does same is = record {
  opening = same;
  step = λ board stands. let d = does board stands in (ap Submit (sym is) ∙ ap told_of d.0, d.1);
}

-- ---- histories

-- an entry more
pub makes_more : (o : Opening) (log : List Entry) (k new : Kept) (e : Entry) → Leaves o log k → IsLegal o log → Makes k e new → IsLegal o (log ++ e ∷ []) × Leaves o (log ++ e ∷ []) new
makes_more o log k new e leaves legal makes =
    let b : Board = board_after o log in
    let submits : SubmitsFor o (event_of o.design e) = subst (λ (p : Opening). SubmitsFor p (event_of p.design e)) leaves.opening makes.attempt in
    let there : (told_by e ≡ told_of (step o b (event_of o.design e)).answer) × StandsFor new (step o b (event_of o.design e)).board =
    subst (λ (p : Opening). (told_by e ≡ told_of (step p b (event_of p.design e)).answer) × StandsFor new (step p b (event_of p.design e)).board) leaves.opening (makes.answers.step b leaves.stands) in
    let goes : GoesOn o log e = record { attempt = submits; answer = there.0 } in
    let next = legal_goes_on o log e legal goes in
    (next.0, record { opening = makes.answers.opening ∙ leaves.opening; stands = subst (StandsFor new) (sym next.1) there.1 })

-- what is wrong where the core is, is wrong after the history that left it
pub wrong_after : (o : Opening) (log : List Entry) (k : Kept) (e : Entry) (number : ℕ) → Leaves o log k → IsWrongAt k e number → IsWrongEntry o log e number
wrong_after o log k e number leaves wrong = elim wrong [ inl w ↦ inl (w.0, untraced w.1) | inr other ↦ inr (other.0, traced other.1, otherwise other.2) ]
  where
    traced : IsTraced k.opening e → IsTraced o e
    traced t = subst (λ (p : Opening). IsTraced p e) leaves.opening t

    untraced : (IsTraced k.opening e → ⊥) → IsTraced o e → ⊥
    untraced untrue t = untrue (subst (λ (p : Opening). IsTraced p e) (sym leaves.opening) t)

    otherwise : ((board : Board) → StandsFor k board → told_by e ≢ told_of (step k.opening board (event_of k.opening.design e)).answer) → told_by e ≢ told_of (step o (board_after o log) (event_of o.design e)).answer
    otherwise differs = subst (λ (p : Opening). told_by e ≢ told_of (step p (board_after o log) (event_of p.design e)).answer) leaves.opening (differs (board_after o log) leaves.stands)

-- ---- the entries of a batch, one after another

-- the entries before one, and it
entries_with : (entries : List Entry) (i : ℕ) (e : Entry) → i < length entries → e ≡ get_or entries i e → take (i + 1) entries ≡ take i entries ++ e ∷ []
entries_with entries i e within is = take_more entries i e within ∙ ap (λ (x : Entry). take i entries ++ x ∷ []) (sym is)

-- what is left from one on
entries_from : (entries : List Entry) (i : ℕ) (e : Entry) → i < length entries → e ≡ get_or entries i e → drop i entries ≡ e ∷ drop (i + 1) entries
entries_from entries i e within is = drop_more entries i e within ∙ ap (λ (x : Entry). x ∷ drop (i + 1) entries) (sym is)

-- so far the entries are a legal history, and those that are left fit
pub record IsSoFar (design : Parts) (o : Opening) (entries : List Entry) (i : ℕ) (k : Kept) : Type 0 where
  pub legal : IsLegal o (take i entries)
  pub leaves : Leaves o (take i entries) k
  pub fits : AllByRecursion (SubmitsRule design o.stimulus) (drop i entries)

pub none_so_far : (design : Parts) (k : Kept) (entries : List Entry) → StandsFor k (opened k.opening) → AllByRecursion (SubmitsRule design k.opening.stimulus) entries → IsSoFar design k.opening entries 0 k
none_so_far design k entries stands fits = record { legal = record { attempts = tt; answers = refl }; leaves = record { opening = refl; stands = stands }; fits = fits }

module _ {design : Parts} {o : Opening} {entries : List Entry} {i : ℕ} {k : Kept} (so_far : IsSoFar design o entries i k) (e : Entry) (within : i < length entries) (is : e ≡ get_or entries i e) where
  pub next_fits : SubmitsRule design k.opening.stimulus e
  next_fits =
      let here : SubmitsRule design o.stimulus e = (subst (AllByRecursion (SubmitsRule design o.stimulus)) (entries_from entries i e within is) so_far.fits).0 in
      subst (λ (p : Opening). SubmitsRule design p.stimulus e) (sym so_far.leaves.opening) here

  pub next_so_far : (new : Kept) → Makes k e new → IsSoFar design o entries (i + 1) new
  next_so_far new makes =
      let both = makes_more o (take i entries) k new e so_far.leaves so_far.legal makes in
      let more : take (i + 1) entries ≡ take i entries ++ e ∷ [] = entries_with entries i e within is in
      record {
        legal = subst (IsLegal o) (sym more) both.0;
        leaves = subst (λ (log : List Entry). Leaves o log new) (sym more) both.1;
        fits = (subst (AllByRecursion (SubmitsRule design o.stimulus)) (entries_from entries i e within is) so_far.fits).1;
      }

  -- it is the first that is wrong
  pub next_wrong : (batch : Batch) (line : ℕ) (fault : Fault) → entries ≡ batch.entries → line ≡ slice_index_or batch.lines i line → i < length batch.lines → IsFaultAt k e line fault → IsFirstWrong o batch fault
  next_wrong batch line fault of_batch at_index lined wrong = record {
    before = take i entries;
    entry = e;
    rest = drop (i + 1) entries;
    entries = sym of_batch ∙ sym (take-append-drop i entries) ∙ ap (λ (xs : List Entry). take i entries ++ xs) (entries_from entries i e within is);
    legal = so_far.legal;
    number = wrong.0;
    wrong = wrong_after o (take i entries) k e wrong.0 so_far.leaves wrong.2;
    fault_is = wrong.1 ∙ ap (at_line wrong.0) (get_or_read batch.lines i line lined at_index 0 ∙ ap (λ (n : ℕ). slice_index_or batch.lines n 0) (sym (length-take-le i entries (omega arith))));
  }

-- all entries were made
pub all_so_far : (design : Parts) (o : Opening) (entries : List Entry) (i : ℕ) (k : Kept) → length entries ≤ i → IsSoFar design o entries i k → IsLegal o entries × Leaves o entries k
all_so_far design o entries i k past so_far =
    let all : take i entries ≡ entries = take_all i entries past in
    (subst (IsLegal o) all so_far.legal, subst (λ (log : List Entry). Leaves o log k) all so_far.leaves)

-- ---- closed cycles

-- there is a row for the opening and one for each closed cycle
pub count_closed : (k : Kept) → AtPlain k → length k.rows + k.opening.from ≡ k.cycle
count_closed k plain =
    let o : Opening = k.opening in
    let count : length k.rows ≡ plain.board.cycle - 1 - o.from + 1 = ap length (plain.stands.rows ∙ plain.plain.rows) ∙ rows_are_cycles (system_of o.design) (inputs_of o.stimulus) o.regs o.from (plain.board.cycle - 1) in
    omega (arith, count, plain.stands.cycle, plain.plain.after)

-- so the number of rows tells whether all are closed
pub count_tells : (k : Kept) → AtPlain k → (rows last first : ℕ) → rows ≡ length k.rows → last ≡ k.opening.to → first ≡ k.opening.from → IsTrue (nat_eq rows (last - first + 1)) ↔ (k.opening.to < k.cycle)
count_tells k plain rows last first is to from = (closed, counted)
  where
    count : length k.rows + k.opening.from ≡ k.cycle
    count = count_closed k plain

    closed : IsTrue (nat_eq rows (last - first + 1)) → k.opening.to < k.cycle
    closed same = let e : rows ≡ last - first + 1 = eqb-true rows (last - first + 1) same in omega (arith, e, count, is, to, from, plain.opening.order)

    counted : k.opening.to < k.cycle → IsTrue (nat_eq rows (last - first + 1))
    counted past = eq-eqb rows (last - first + 1) (omega (arith, past, count, is, to, from, plain.opening.order, plain.plain.within, plain.stands.cycle))

-- a history closes all cycles where the core that it leaves has closed them
pub closes_from : (o : Opening) (log : List Entry) (k : Kept) → Leaves o log k → k.opening.to < k.cycle → Closes o log
closes_from o log k leaves past =
    let same : k.opening.to ≡ o.to = ap (λ (p : Opening). p.to) leaves.opening in
    omega (arith, past, same, leaves.stands.cycle)

pub closes_to : (o : Opening) (log : List Entry) (k : Kept) → Leaves o log k → Closes o log → k.opening.to < k.cycle
closes_to o log k leaves closes =
    let same : k.opening.to ≡ o.to = ap (λ (p : Opening). p.to) leaves.opening in
    omega (arith, closes, same, leaves.stands.cycle)

-- a history that closes all cycles leaves the rows of the run
pub closed_run : (o : Opening) (log : List Entry) (k : Kept) → AtPlain k → Leaves o log k → Closes o log → (k.rows ≡ run_in o) × ((board_after o log).rows ≡ run_in o)
closed_run o log k plain leaves closes = (rows, sym leaves.stands.rows ∙ rows)
  where
    last : plain.board.cycle - 1 ≡ k.opening.to
    last =
        let same : k.opening.to ≡ o.to = ap (λ (p : Opening). p.to) leaves.opening in
        omega (arith, closes, same, leaves.stands.cycle, plain.stands.cycle, plain.plain.within)

    rows : k.rows ≡ run_in o
    rows =
        plain.stands.rows ∙ plain.plain.rows
        ∙ ap (λ (n : ℕ). run_in (record k.opening { to = n })) last
        ∙ ap run_in leaves.opening
