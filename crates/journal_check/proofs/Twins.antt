-- What is said of a journal with a design is said with its twins.
use Rattle.std.proofs.Common.{◌≡◌, ℕ, zero, suc, ◌<◌, ◌+◌, Bool, true, false, List, [], ◌∷◌, ◌++◌, length, Option, Some, None, is_some, refl, sym, ap, ap₂, ◌∙◌, subst, inl, inr}
use Rattle.std.specs.Prelude.{◌↔◌, ◌==◌, ◌&&◌, map, codes, decimal, nat_lt, option_map, slice_get, if◌then◌else◌}
use Rattle.std.specs.List.{AllByRecursion}
use Rattle.std.proofs.lemmas.List.{length-map}
use Rattle.kw_base.specs.declared.fault.Fault.{Fault}
use Rattle.kw_bits.specs.BitVector.{BitVector}
use Rattle.typed_core.specs.declared.access.Event.{Event}
use Rattle.typed_core.specs.declared.design.Node.{Node}
use Rattle.typed_core.specs.declared.design.Parts.{Parts}
use Rattle.typed_core.specs.declared.design.Rule.{Rule}
use Rattle.typed_core.specs.declared.access.Access.{Access}
use Rattle.typed_core.specs.declared.outcome.Alone.{Alone}
use Rattle.typed_core.specs.declared.outcome.Outcome.{Outcome}
use Rattle.typed_core.specs.declared.outcome.Outcome.TheVariants as outcome
use Rattle.typed_core.proofs.Equal.{SameDesign-refl}
use Rattle.one_rule.specs.Cycle.{begin, flags, join, numbers}
use Rattle.one_rule.specs.Run.{first_values, last_registers, opening}
use Rattle.one_rule.specs.Stimulus.{InputVectors, inputs_of}
use Rattle.one_rule.specs.Walk.{start}
use Rattle.attempt_log.specs.Attempt.{Attempted}
use Rattle.attempt_log.specs.Setting.{at_design}
use Rattle.attempt_log.specs.Trace.{IsTrace}
use Rattle.attempt_log.specs.Verdict.{verdict}
use Rattle.attempt_log.specs.declared.cause.Cause.{Cause}
use Rattle.attempt_log.specs.declared.cause.Cause.TheVariants as cause
use Rattle.attempt_log.specs.declared.cause.Verdict.{Verdict}
use Rattle.attempt_log.specs.declared.cause.Verdict.TheVariants.{Commit, Skip, Stale}
use Rattle.attempt_log.specs.declared.entry.Entry.{Entry}
use Rattle.attempt_log.specs.declared.entry.Entry.TheVariants as entry
use Rattle.attempt_log.specs.declared.entry.Settled.{Settled}
use Rattle.attempt_log.specs.declared.entry.Settled.TheVariants as settled
use Rattle.attempt_log.specs.declared.entry.Submitted.TheVariants as submitted
use Rattle.board_core.specs.Board.{Board, Opening, Slots, BoardStep, closed, head, is_ahead, is_late, judged, opened, with_slot, run_events, settle, settle_at, settle_with, settled_by, stands, stays, step, stored, submit, without}
use Rattle.board_core.specs.History.{IsLegal, SubmitsFor, Told, answers_after, board_after, event_of, events_of, told_of}
use Rattle.board_core.specs.Laws.{IsTraced}
use Rattle.board_core.specs.declared.event.BoardAnswer.TheVariants as answer
use Rattle.journal_check.specs.Checking.{AreGood, Closes, IsFaultFrom, IsFaultOf, IsFaultOfEntries, IsFirstWrong, IsGoodBatch, IsWrongEntry, left_by, opening_of}
use Rattle.journal_check.specs.Fitting.{AccessFits, CauseFits, RegisterEventFits, IsRule, LineFits, OutcomeFits, SettledFits}
use Rattle.journal_check.specs.Journals.{lines_in}
use Rattle.journal_check.specs.Printing.{access_text, cause_tokens, event_text, joined_tokens, line_text, line_tokens, name_of_rule, outcome_tokens, rule_name, settled_tokens, stale_tokens, taken_text}
use Rattle.journal_check.specs.Reading.{AreFront, AreJournalLines, HasPlainNames, IsPlain, MayFollow, NoneFollows}
use Rattle.journal_check.specs.Tokens.{number_named, rule_names}
use Rattle.journal_check.specs.Twins.{AreTwins, TwinsFailAlike, TwinsPassAlike, TwinsReadAlike, TwinsStopAlike}
use Rattle.journal_check.specs.declared.journal.Batch.{Batch}
use Rattle.journal_check.specs.declared.journal.Journal.{Journal}
use Rattle.journal_check.specs.declared.line.JournalLine.{JournalLine}
use Rattle.journal_check.specs.declared.line.JournalLine.TheVariants as line
use Rattle.kw_base.specs.Texts.{lines_of}

-- ---- rules of the same names

abbrev name_of : Rule → List ℕ
name_of rule = rule.name

abbrev names_of : List Rule → List (List ℕ)
names_of rules = map (λ (rule : Rule). rule.name) rules

name-same : (xs ys : List Rule) (number : ℕ) → names_of xs ≡ names_of ys → name_of_rule (slice_get xs number) ≡ name_of_rule (slice_get ys number)
name-same [] [] number h = refl
name-same [] (y ∷ ys) number h = absurd (cc)
name-same (x ∷ xs) [] number h = absurd (cc)
name-same (x ∷ xs) (y ∷ ys) zero h = cc
name-same (x ∷ xs) (y ∷ ys) (suc number) h = let rests : names_of xs ≡ names_of ys = cc in name-same xs ys number rests

count-same : (xs ys : List Rule) → names_of xs ≡ names_of ys → length xs ≡ length ys
count-same xs ys h = sym (length-map xs (λ (rule : Rule). rule.name)) ∙ ap length h ∙ length-map ys (λ (rule : Rule). rule.name)

-- what follows of each follows of all
all_to : {X : Type 0} (P Q : X → Type 0) (xs : List X) → ((x : X) → P x → Q x) → AllByRecursion P xs → AllByRecursion Q xs
all_to P Q [] f all = tt
all_to P Q (x ∷ xs) f all = (f x all.0, all_to P Q xs f all.1)

-- ---- lines, where the rules are others of the same names

module _ (d : Parts) (rules : List Rule) (names : rule_names d ≡ names_of rules) where
  abbrev other : Parts
  other = record d { rules = rules }

  rule_name-same : (number : ℕ) → rule_name d number ≡ rule_name other number
  rule_name-same number = name-same d.rules rules number names

  cause-same : (why : Cause) → cause_tokens d why ≡ cause_tokens other why
  cause-same cause.Abort = refl
  cause-same (cause.OwnClash a) = refl
  cause-same (cause.Clash a rule earlier) = ap (λ (name : List ℕ). codes "clash" ∷ access_text d a ∷ name ∷ access_text d earlier ∷ []) (rule_name-same rule)

  settled-same : (told : Settled) → settled_tokens d told ≡ settled_tokens other told
  settled-same (settled.Committed cycle rule) = ap (λ (name : List ℕ). codes "committed" ∷ decimal cycle ∷ name ∷ []) (rule_name-same rule)
  settled-same (settled.Skipped cycle rule why) = ap₂ (λ (name : List ℕ) (rest : List (List ℕ)). codes "skipped" ∷ decimal cycle ∷ name ∷ rest) (rule_name-same rule) (cause-same why)
  settled-same (settled.Stale cycle rule read) = ap (λ (name : List ℕ). codes "stale" ∷ decimal cycle ∷ name ∷ stale_tokens d read) (rule_name-same rule)
  settled-same (settled.CycleClosed cycle) = refl
  settled-same (settled.Waiting cycle rule) = ap (λ (name : List ℕ). codes "waiting" ∷ decimal cycle ∷ name ∷ []) (rule_name-same rule)
  settled-same settled.Finished = refl

  outcome-same : (ending : Outcome) → outcome_tokens d ending ≡ outcome_tokens other ending
  outcome-same outcome.Done = refl
  outcome-same outcome.Abort = refl
  outcome-same (outcome.OwnClash a) = refl

  tokens-same : (l : JournalLine) → line_tokens d l ≡ line_tokens other l
  tokens-same (line.Begins count) = refl
  tokens-same (line.Batch from to) = refl
  tokens-same (line.Entry (entry.Submit worker cycle rule inputs events ending answer)) =
      ap₂ (λ (name : List ℕ) (how : List (List ℕ)). codes "s" ∷ decimal worker ∷ decimal cycle ∷ name ∷ how ++ (map (event_text d) events ++ (codes ":" ∷ taken_text answer ∷ [])))
      (rule_name-same rule) (outcome-same ending)
  tokens-same (line.Entry (entry.Settle worker told)) = ap (λ (rest : List (List ℕ)). codes "t" ∷ decimal worker ∷ codes ":" ∷ rest) (settled-same told)

  line-same : (l : JournalLine) → line_text d l ≡ line_text other l
  line-same l = ap joined_tokens (tokens-same l)

  rule_is : (number : ℕ) → IsRule d number → IsRule other number
  rule_is number h = ap₂ (λ (all : List (List ℕ)) (name : List ℕ). number_named all name) (sym names) (sym (rule_name-same number)) ∙ h

  access_fits : (a : Access) → AccessFits d a → AccessFits other a
  access_fits a h = record { port = h.port; register = h.register }

  event_fits : (e : Event) → RegisterEventFits d e → RegisterEventFits other e
  event_fits e h = record { access = access_fits e.access h.access; value = h.value }

  outcome_fits : (ending : Outcome) → OutcomeFits d ending → OutcomeFits other ending
  outcome_fits outcome.Done h = tt
  outcome_fits outcome.Abort h = tt
  outcome_fits (outcome.OwnClash a) h = access_fits a h

  cause_fits : (why : Cause) → CauseFits d why → CauseFits other why
  cause_fits cause.Abort h = tt
  cause_fits (cause.OwnClash a) h = access_fits a h
  cause_fits (cause.Clash a rule earlier) h = (access_fits a h.0, rule_is rule h.1, access_fits earlier h.2)

  settled_fits : (told : Settled) → SettledFits d told → SettledFits other told
  settled_fits (settled.Committed cycle rule) h = (h.0, rule_is rule h.1)
  settled_fits (settled.Skipped cycle rule why) h = (h.0, rule_is rule h.1, cause_fits why h.2)
  settled_fits (settled.Stale cycle rule read) h =
      (h.0, rule_is rule h.1, record { access = access_fits _ h.2.access; held = h.2.held; now_value = h.2.now_value; differ = h.2.differ })
  settled_fits (settled.CycleClosed cycle) h = h
  settled_fits (settled.Waiting cycle rule) h = (h.0, rule_is rule h.1)
  settled_fits settled.Finished h = tt

  module _ (stimulus : InputVectors) where
    line_fits : (workers : ℕ) (l : JournalLine) → LineFits d stimulus workers l → LineFits other stimulus workers l
    line_fits workers (line.Begins count) h = h
    line_fits workers (line.Batch from to) h = h
    line_fits workers (line.Entry (entry.Submit worker cycle rule inputs events ending answer)) h =
        (h.0, h.1, h.2, rule_is rule h.3, h.4, all_to (RegisterEventFits d) (RegisterEventFits other) events event_fits h.5, outcome_fits ending h.6)
    line_fits workers (line.Entry (entry.Settle worker told)) h = (h.0, settled_fits told h.1)

    are_lines : (first_line : ℕ) (texts : List (List ℕ)) (journal : Journal) → AreJournalLines d stimulus first_line texts journal → AreJournalLines other stimulus first_line texts journal
    are_lines first_line texts journal h =
        record {
          lines = h.lines ∙ ap (λ (text : JournalLine → List ℕ). map text (lines_in journal)) (λ i l. line-same l i);
          fit = all_to (LineFits d stimulus journal.workers) (LineFits other stimulus journal.workers) (lines_in journal) (line_fits journal.workers) h.fit;
          numbers = h.numbers;
          counts = h.counts;
        }

    front_of : (first_line : ℕ) (texts : List (List ℕ)) (front : Option Journal) → AreFront d stimulus first_line texts front → AreFront other stimulus first_line texts front
    front_of first_line texts None h = h
    front_of first_line texts (Some journal) h = are_lines first_line texts journal h

    may_follow : (front : Option Journal) (l : JournalLine) → MayFollow d stimulus front l → MayFollow other stimulus front l
    may_follow None (line.Begins count) h = h
    may_follow None (line.Batch from to) h = h
    may_follow None (line.Entry e) h = h
    may_follow (Some journal) (line.Begins count) h = h
    may_follow (Some journal) (line.Batch from to) h = h
    may_follow (Some journal) (line.Entry e) h = (h.0, line_fits journal.workers (line.Entry e) h.1)

  plain : HasPlainNames d → HasPlainNames other
  plain h = record { registers = h.registers; rules = subst (AllByRecursion IsPlain) names h.rules }

none_follows : (d : Parts) (rules : List Rule) (names : rule_names d ≡ names_of rules) (stimulus : InputVectors) (front : Option Journal) (texts : List (List ℕ)) → NoneFollows d stimulus front texts
    → NoneFollows (record d { rules = rules }) stimulus front texts
none_follows d rules names stimulus front [] h = h
none_follows d rules names stimulus front (text ∷ texts) h = λ named l may is.
    let back : Parts = record d { rules = rules } in
    h (plain back d.rules (sym names) named) l (may_follow back d.rules (sym names) stimulus front l may) (is ∙ sym (line-same d rules names l))

-- ---- boards

module _ (o : Opening) (rules : List Rule) (names : rule_names o.design ≡ names_of rules) where
  abbrev twin : Opening
  twin = record o { design = record o.design { rules = rules } }

  -- the attempts that stand are at the other design
  abbrev moved : Option Attempted → Option Attempted
  moved held = option_map (at_design twin.design) held

  abbrev across : Board → Board
  across board = record board { slots = λ cycle rule. moved (board.slots cycle rule) }

  record IsAlike (a b : BoardStep) : Type 0 where
    told : told_of b.answer ≡ told_of a.answer
    board : b.board ≡ across a.board

  either-moved : (b : Bool) (x y : Option Attempted) → (if b then moved x else moved y) ≡ moved (if b then x else y)
  either-moved true x y = refl
  either-moved false x y = refl

  is_some-moved : (held : Option Attempted) → is_some (moved held) ≡ is_some held
  is_some-moved None = refl
  is_some-moved (Some a) = refl

  with_slot-moved : (slots : Slots) (cycle rule : ℕ) (held : Option Attempted) →
      (let those : Slots = with_slot (λ c r. moved (slots c r)) cycle rule (moved held) in those) ≡ (λ c r. moved (with_slot slots cycle rule held c r))
  with_slot-moved slots cycle rule held = λ i c r. either-moved ((c == cycle) && (r == rule)) held (slots c r) i

  without-moved : (slots : Slots) (cycle : ℕ) → (let those : Slots = without (λ c r. moved (slots c r)) cycle in those) ≡ (λ c r. moved (without slots cycle c r))
  without-moved slots cycle = λ i c r. either-moved (c == cycle) None (slots c r) i

  -- an attempt is taken alike
  submit-same : (board : Board) (a : Attempted) → IsAlike (submit o board a) (submit twin (across board) (at_design twin.design a))
  submit-same board a = by (is_late board a) (is_ahead o board a) (stands board a.cycle a.rule) (stands (across board) a.cycle a.rule) (is_some-moved (board.slots a.cycle a.rule))
    where
      by : (late ahead held also : Bool) → also ≡ held → IsAlike
          (if late then stays board (answer.Submit (submitted.Late a))
          else if ahead then stays board (answer.Submit (submitted.Ahead a))
          else if held then stays board (answer.Submit (submitted.Twice a))
          else record { answer = answer.Submit submitted.Stored; board = stored o board a })
          (if late then stays (across board) (answer.Submit (submitted.Late (at_design twin.design a)))
          else if ahead then stays (across board) (answer.Submit (submitted.Ahead (at_design twin.design a)))
          else if also then stays (across board) (answer.Submit (submitted.Twice (at_design twin.design a)))
          else record { answer = answer.Submit submitted.Stored; board = stored twin (across board) (at_design twin.design a) })
      by true ahead held also same = record { told = refl; board = refl }
      by false true held also same = record { told = refl; board = refl }
      by false false true true same = record { told = refl; board = refl }
      by false false true false same = absurd (cc)
      by false false false true same = absurd (cc)
      by false false false false same = record {
        told = refl;
        board = ap (λ (slots : Slots). let b : Board = record board { slots = slots } in b) (with_slot-moved board.slots a.cycle a.rule (Some (at_design o.design a)));
      }

  -- and judged alike
  judged-same : (board : Board) (node : Node) (a : Attempted) (v : Verdict) → IsAlike (judged board node a v) (judged (across board) node (at_design twin.design a) v)
  judged-same board node a Commit = record {
    told = refl;
    board = ap (λ (slots : Slots). let b : Board = record (settled_by board node.rule (record { state = join board.walk.state node.rule a.run.events; at = node.yes })) { slots = slots } in b)
        (with_slot-moved board.slots board.cycle node.rule None);
  }
  judged-same board node a (Skip why) = record {
    told = refl;
    board = ap (λ (slots : Slots). let b : Board = record (settled_by board node.rule (record { state = board.walk.state; at = node.no })) { slots = slots } in b)
        (with_slot-moved board.slots board.cycle node.rule None);
  }
  judged-same board node a (Stale read) = record {
    told = refl;
    board = ap (λ (slots : Slots). let b : Board = record board { slots = slots } in b) (with_slot-moved board.slots board.cycle node.rule None);
  }

  settle_with-same : (board : Board) (node : Node) (held : Option Attempted) → IsAlike (settle_with board node held) (settle_with (across board) node (moved held))
  settle_with-same board node None = record { told = refl; board = refl }
  settle_with-same board node (Some a) = judged-same board node a (verdict board.walk.state.regs board.walk.state.past a.run)

  closed-same : (board : Board) → closed twin (across board) ≡ across (closed o board)
  closed-same board = ap₂ (λ (count : ℕ) (slots : Slots).
      let b : Board = record {
        cycle = board.cycle + 1;
        walk = start o.design.nodes (begin board.walk.state.regs);
        settled = [];
        rows = board.rows ++ record { regs = board.walk.state.regs; fired = flags count (numbers board.walk.state.past) } ∷ [];
        slots = slots;
      } in
      b) (sym (count-same o.design.rules rules names)) (without-moved board.slots board.cycle)

  settle_at-same : (board : Board) (node : Option Node) → IsAlike (settle_at o board node) (settle_at twin (across board) node)
  settle_at-same board None = record { told = refl; board = closed-same board }
  settle_at-same board (Some node) = settle_with-same board node (board.slots board.cycle node.rule)

  settle-same : (board : Board) → IsAlike (settle o board) (settle twin (across board))
  settle-same board = by (nat_lt o.to board.cycle)
    where
      by : (past : Bool) → IsAlike (if past then stays board (answer.Settle settled.Finished) else settle_at o board (head o board))
          (if past then stays (across board) (answer.Settle settled.Finished) else settle_at twin (across board) (head o board))
      by true = record { told = refl; board = refl }
      by false = settle_at-same board (head o board)

  -- so is an entry
  step-same : (board : Board) (e : Entry) → IsAlike (step o board (event_of o.design e)) (step twin (across board) (event_of twin.design e))
  step-same board (entry.Submit worker cycle rule inputs events ending told) =
      submit-same board (record { design = o.design; cycle = cycle; rule = rule; inputs = inputs; run = record { events = events; outcome = ending } })
  step-same board (entry.Settle worker told) = settle-same board

  answers-from : (board : Board) (entries : List Entry) →
      map told_of (run_events twin (across board) (events_of twin entries)).answers ≡ map told_of (run_events o board (events_of o entries)).answers
  answers-from board [] = refl
  answers-from board (e ∷ entries) =
      let first = step-same board e in
      ap₂ (λ (t : Told) (ts : List Told). t ∷ ts) first.told
      (ap (λ (b : Board). map told_of (run_events twin b (events_of twin entries)).answers) first.board ∙ answers-from (step o board (event_of o.design e)).board entries)

  board-from : (board : Board) (entries : List Entry) → (run_events twin (across board) (events_of twin entries)).board ≡ across (run_events o board (events_of o entries)).board
  board-from board [] = refl
  board-from board (e ∷ entries) =
      ap (λ (b : Board). (run_events twin b (events_of twin entries)).board) (step-same board e).board ∙ board-from (step o board (event_of o.design e)).board entries

  opened-same : opened twin ≡ across (opened o)
  opened-same = ap (λ (count : ℕ).
      let b : Board = record {
        cycle = o.from + 1;
        walk = start o.design.nodes (begin o.regs);
        settled = [];
        rows = opening count o.regs ∷ [];
        slots = λ cycle rule. None;
      } in
      b) (sym (count-same o.design.rules rules names))

  answers-same : (entries : List Entry) → map told_of (answers_after twin entries) ≡ map told_of (answers_after o entries)
  answers-same entries = ap (λ (b : Board). map told_of (run_events twin b (events_of twin entries)).answers) opened-same ∙ answers-from (opened o) entries

  board-same : (entries : List Entry) → board_after twin entries ≡ across (board_after o entries)
  board-same entries = ap (λ (b : Board). (run_events twin b (events_of twin entries)).board) opened-same ∙ board-from (opened o) entries

  answer-same : (entries : List Entry) (e : Entry) →
      told_of (step twin (board_after twin entries) (event_of twin.design e)).answer ≡ told_of (step o (board_after o entries) (event_of o.design e)).answer
  answer-same entries e = ap (λ (b : Board). told_of (step twin b (event_of twin.design e)).answer) (board-same entries) ∙ (step-same (board_after o entries) e).told

  closes-same : (entries : List Entry) → Closes o entries → Closes twin entries
  closes-same entries h = subst (λ (b : Board). o.to < b.cycle) (sym (board-same entries)) h

  closes-back : (entries : List Entry) → Closes twin entries → Closes o entries
  closes-back entries h = subst (λ (b : Board). o.to < b.cycle) (board-same entries) h

  left-same : (entries : List Entry) → left_by o entries ≡ left_by twin entries
  left-same entries = ap (λ (b : Board). last_registers o.regs b.rows) (sym (board-same entries))

-- ---- histories, where the traces are the same

abbrev TraceAlike : InputVectors → Parts → Parts → Type 0
TraceAlike stimulus a b = (rule cycle : ℕ) (run : Alone) → IsTrace a rule (inputs_of stimulus cycle) run ↔ IsTrace b rule (inputs_of stimulus cycle) run

trace-alike : (stimulus : InputVectors) (a b : Parts) → TraceAlike stimulus a b → (rule cycle : ℕ) (inputs : List BitVector) (run : Alone) → inputs ≡ inputs_of stimulus cycle → IsTrace a rule inputs run → IsTrace b rule inputs run
trace-alike stimulus a b traces rule cycle inputs run is h =
    subst (λ (given : List BitVector). IsTrace b rule given run) (sym is) ((traces rule cycle run).0 (subst (λ (given : List BitVector). IsTrace a rule given run) is h))

module _ (o : Opening) (rules : List Rule) (names : rule_names o.design ≡ names_of rules) (traces : TraceAlike o.stimulus o.design (record o.design { rules = rules })) where
  abbrev same : Opening
  same = record o { design = record o.design { rules = rules } }

  submits-same : (e : Entry) → SubmitsFor o (event_of o.design e) → SubmitsFor same (event_of same.design e)
  submits-same (entry.Submit worker cycle rule inputs events ending told) h = record {
    attempt = record {
      rule = subst (λ (count : ℕ). rule < count) (count-same o.design.rules rules names) h.attempt.rule;
      inputs = h.attempt.inputs;
      trace = trace-alike o.stimulus o.design same.design traces rule cycle inputs (record { events = events; outcome = ending }) h.is_for.inputs h.attempt.trace;
      events = h.attempt.events;
    };
    is_for = record { design = SameDesign-refl same.design; inputs = h.is_for.inputs };
  }
  submits-same (entry.Settle worker told) h = tt

  attempts-same : (entries : List Entry) → AllByRecursion (SubmitsFor o) (events_of o entries) → AllByRecursion (SubmitsFor same) (events_of same entries)
  attempts-same [] h = tt
  attempts-same (e ∷ entries) h = (submits-same e h.0, attempts-same entries h.1)

  legal-same : (entries : List Entry) → IsLegal o entries → IsLegal same entries
  legal-same entries h = record { attempts = attempts-same entries h.attempts; answers = h.answers ∙ sym (answers-same o rules names entries) }

  traced-same : (e : Entry) → IsTraced o e → IsTraced same e
  traced-same (entry.Submit worker cycle rule inputs events ending told) h = (
    subst (λ (count : ℕ). rule < count) (count-same o.design.rules rules names) h.0,
    h.1,
    trace-alike o.stimulus o.design same.design traces rule cycle inputs (record { events = events; outcome = ending }) h.1 h.2,
  )
  traced-same (entry.Settle worker told) h = tt

  good_batch-same : (n from : ℕ) (batch : Batch) → IsGoodBatch n from o batch → IsGoodBatch n from same batch
  good_batch-same n from batch h = record { due = h.due; legal = legal-same batch.entries h.legal; closes = closes-same o rules names batch.entries h.closes }

-- ---- faults

module _ (o : Opening) (rules : List Rule) (names : rule_names o.design ≡ names_of rules) (traces : TraceAlike o.stimulus o.design (record o.design { rules = rules })) where
  abbrev peer : Opening
  peer = record o { design = record o.design { rules = rules } }

  traced-back : (e : Entry) → IsTraced peer e → IsTraced o e
  traced-back = traced-same peer o.design.rules (sym names) (λ rule cycle run. ((traces rule cycle run).1, (traces rule cycle run).0))

  wrong-same : (before : List Entry) (e : Entry) (number : ℕ) → IsWrongEntry o before e number → IsWrongEntry peer before e number
  wrong-same before e number (inl w) = inl (w.0, λ traced. w.1 (traced-back e traced))
  wrong-same before e number (inr w) = inr (w.0, traced-same o rules names traces e w.1, λ told. w.2 (told ∙ answer-same o rules names before e))

  first-same : (batch : Batch) (fault : Fault) → IsFirstWrong o batch fault → IsFirstWrong peer batch fault
  first-same batch fault h = record {
    before = h.before;
    entry = h.entry;
    rest = h.rest;
    entries = h.entries;
    legal = legal-same o rules names traces h.before h.legal;
    number = h.number;
    wrong = wrong-same h.before h.entry h.number h.wrong;
    fault_is = h.fault_is;
  }

  of_entries-same : (batch : Batch) (fault : Fault) → IsFaultOfEntries o batch fault → IsFaultOfEntries peer batch fault
  of_entries-same batch fault (inl h) = inl (first-same batch fault h)
  of_entries-same batch fault (inr h) = inr (legal-same o rules names traces batch.entries h.0, (λ closes. h.1 (closes-back o rules names batch.entries closes)), h.2)

  fault-same : (n from : ℕ) (batch : Batch) (fault : Fault) → IsFaultOf n from o batch fault → IsFaultOf n from peer batch fault
  fault-same n from batch fault (inl h) = inl h
  fault-same n from batch fault (inr h) = inr (h.0, of_entries-same batch fault h.1)

-- ---- journals

module _ (stimulus : InputVectors) (d : Parts) (rules : List Rule) (names : rule_names d ≡ names_of rules) (traces : TraceAlike stimulus d (record d { rules = rules })) where
  abbrev renewed : Parts
  renewed = record d { rules = rules }

  good_from : (n from : ℕ) (regs : List BitVector) (batches : List Batch) → AreGood d stimulus n from regs batches → AreGood renewed stimulus n from regs batches
  good_from n from regs [] h = h
  good_from n from regs (batch ∷ batches) h =
      let o = opening_of d stimulus regs batch in (
        good_batch-same o rules names traces n from batch h.0,
        subst (λ (left : List BitVector). AreGood renewed stimulus n batch.to left batches) (left-same o rules names batch.entries) (good_from n batch.to (left_by o batch.entries) batches h.1),
      )

  fault_from : (n line from : ℕ) (regs : List BitVector) (batches : List Batch) (fault : Fault) → IsFaultFrom d stimulus n line from regs batches fault → IsFaultFrom renewed stimulus n line from regs batches fault
  fault_from n line from regs [] fault h = h
  fault_from n line from regs (batch ∷ batches) fault (inl h) = inl (fault-same (opening_of d stimulus regs batch) rules names traces n from batch fault h)
  fault_from n line from regs (batch ∷ batches) fault (inr h) =
      let o = opening_of d stimulus regs batch in
      inr (
        good_batch-same o rules names traces n from batch h.0,
        subst (λ (left : List BitVector). IsFaultFrom renewed stimulus n line batch.to left batches fault) (left-same o rules names batch.entries)
            (fault_from n line batch.to (left_by o batch.entries) batches fault h.1),
      )

-- ---- twins

module _ (stimulus : InputVectors) (a b : Parts) (t : AreTwins stimulus a b) where
  -- a twin is the design with other rules
  other_rules : (let c : Parts = record a { rules = b.rules } in c) ≡ b
  other_rules = λ i. record { regs = t.regs i; inputs = t.inputs i; tables = t.tables i; hosts = t.hosts i; rules = b.rules; nodes = t.nodes i }

  traces_of : TraceAlike stimulus a (record a { rules = b.rules })
  traces_of = subst (TraceAlike stimulus a) (sym other_rules) t.traces

pub twins_read_alike : TwinsReadAlike
twins_read_alike stimulus a b first_line text journal t h =
    subst (λ (d : Parts). AreJournalLines d stimulus first_line (lines_of text) journal) (other_rules stimulus a b t) (are_lines a b.rules t.names stimulus first_line (lines_of text) journal h)

pub twins_stop_alike : TwinsStopAlike
twins_stop_alike stimulus a b first_line text fault t h =
    let same = other_rules stimulus a b t in
    record {
      before = h.before;
      rest = h.rest;
      front = h.front;
      lines = h.lines;
      are = subst (λ (d : Parts). AreFront d stimulus first_line h.before h.front) same (front_of a b.rules t.names stimulus first_line h.before h.front h.are);
      none = subst (λ (d : Parts). NoneFollows d stimulus h.front h.rest) same (none_follows a b.rules t.names stimulus h.front h.rest h.none);
      fault_is = h.fault_is;
    }

pub twins_pass_alike : TwinsPassAlike
twins_pass_alike stimulus a b n journal t h =
    subst (λ (d : Parts). AreGood d stimulus n 0 (first_values d) journal.batches) (other_rules stimulus a b t) (good_from stimulus a b.rules t.names (traces_of stimulus a b t) n 0 (first_values a) journal.batches h)

pub twins_fail_alike : TwinsFailAlike
twins_fail_alike stimulus a b n journal fault t h =
    subst (λ (d : Parts). IsFaultFrom d stimulus n journal.line 0 (first_values d) journal.batches fault) (other_rules stimulus a b t)
    (fault_from stimulus a b.rules t.names (traces_of stimulus a b t) n journal.line 0 (first_values a) journal.batches fault h)
