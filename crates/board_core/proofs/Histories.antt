-- Legal histories go on entry by entry.
use Rattle.std.proofs.Common.{◌≡◌, Bool, true, false, List, [], ◌∷◌, ◌++◌, refl, sym, ap, ap₂, ◌∙◌, subst}
use Rattle.std.specs.Prelude.{map, if◌then◌else◌}
use Rattle.std.specs.List.{AllByRecursion}
use Rattle.attempt_log.specs.Attempt.{Attempted}
use Rattle.attempt_log.specs.Setting.{at_design}
use Rattle.attempt_log.specs.declared.entry.Entry.{Entry}
use Rattle.attempt_log.specs.declared.entry.Submitted.TheVariants as submitted
use Rattle.board_core.specs.Board.{Board, Opening, BoardStep, is_ahead, is_late, opened, run_events, stands, stays, step, stored}
use Rattle.board_core.specs.History.{SubmitsFor, Told, answers_after, board_after, event_of, events_of, told_by, told_of}
use Rattle.board_core.specs.Laws.{FrontIsLegal, LegalGoesOn, SubmitsAlike}
use Rattle.board_core.specs.declared.event.BoardAnswer.{BoardAnswer}
use Rattle.board_core.specs.declared.event.BoardAnswer.TheVariants as answer
use Rattle.board_core.specs.declared.event.BoardEvent.{BoardEvent}

pub submits_alike : SubmitsAlike
submits_alike o board a = chosen (is_late board a) (is_ahead o board a) (stands board a.cycle a.rule)
  where
    b : Attempted
    b = at_design o.design a

    by : Attempted → Bool → Bool → Bool → BoardStep
    by x late ahead twice =
        if late then stays board (answer.Submit (submitted.Late x)) else if ahead then stays board (answer.Submit (submitted.Ahead x)) else if twice then stays board (answer.Submit (submitted.Twice x)) else record { answer = answer.Submit submitted.Stored; board = stored o board x }

    chosen : (late ahead twice : Bool) → (told_of (by b late ahead twice).answer ≡ told_of (by a late ahead twice).answer) × ((by b late ahead twice).board ≡ (by a late ahead twice).board)
    chosen true ahead twice = (refl, refl)
    chosen false true twice = (refl, refl)
    chosen false false true = (refl, refl)
    chosen false false false = (refl, refl)

-- ---- runs of longer lists

run_more : (o : Opening) (board : Board) (events : List BoardEvent) (e : BoardEvent)
    → let last = step o (run_events o board events).board e in
    ((run_events o board (events ++ e ∷ [])).answers ≡ (run_events o board events).answers ++ last.answer ∷ []) × ((run_events o board (events ++ e ∷ [])).board ≡ last.board)
run_more o board [] e = (refl, refl)
run_more o board (x ∷ events) e =
    let first = step o board x in
    let rest = run_more o first.board events e in
    (ap (λ (answers : List BoardAnswer). first.answer ∷ answers) rest.0, rest.1)

map-push : {A B : Type 0} (f : A → B) (xs : List A) (x : A) → map f (xs ++ x ∷ []) ≡ map f xs ++ f x ∷ []
map-push f [] x = refl
map-push f (y ∷ xs) x = ap (λ ys. f y ∷ ys) (map-push f xs x)

all_push : (o : Opening) (events : List BoardEvent) (e : BoardEvent) → AllByRecursion (SubmitsFor o) events → SubmitsFor o e → AllByRecursion (SubmitsFor o) (events ++ e ∷ [])
all_push o [] e all one = (one, tt)
all_push o (x ∷ events) e all one = (all.0, all_push o events e all.1 one)

pub legal_goes_on : LegalGoesOn
legal_goes_on o entries e legal goes = (
  record {
    attempts = subst (AllByRecursion (SubmitsFor o)) (sym events) (all_push o (events_of o entries) (event_of o.design e) legal.attempts goes.attempt);
    answers =
        map-push told_by entries e
        ∙ ap₂ (λ (ts : List Told) (t : Told). ts ++ t ∷ []) legal.answers goes.answer
        ∙ sym (ap (map told_of) (ap (λ (es : List BoardEvent). (run_events o (opened o) es).answers) events ∙ more.0) ∙ map-push told_of (answers_after o entries) (step o (board_after o entries) (event_of o.design e)).answer);
  },
  ap (λ (es : List BoardEvent). (run_events o (opened o) es).board) events ∙ more.1,
)
  where
    events : events_of o (entries ++ e ∷ []) ≡ events_of o entries ++ event_of o.design e ∷ []
    events = map-push (event_of o.design) entries e

    more : ((run_events o (opened o) (events_of o entries ++ event_of o.design e ∷ [])).answers ≡ answers_after o entries ++ (step o (board_after o entries) (event_of o.design e)).answer ∷ [])
        × ((run_events o (opened o) (events_of o entries ++ event_of o.design e ∷ [])).board ≡ (step o (board_after o entries) (event_of o.design e)).board)
    more = run_more o (opened o) (events_of o entries) (event_of o.design e)

-- ---- fronts

-- what was told after the first, and the first
abbrev pub tail_of : List Told → List Told
tail_of [] = []
tail_of (t ∷ ts) = ts

abbrev pub head_or : Told → List Told → Told
head_or d [] = d
head_or d (t ∷ ts) = t

module _ (o : Opening) where
  front_attempts : (front back : List Entry) → AllByRecursion (SubmitsFor o) (events_of o (front ++ back)) → AllByRecursion (SubmitsFor o) (events_of o front)
  front_attempts [] back all = tt
  front_attempts (e ∷ front) back all = (all.0, front_attempts front back all.1)

  front_answers : (board : Board) (front back : List Entry) → map told_by (front ++ back) ≡ map told_of (run_events o board (events_of o (front ++ back))).answers → map told_by front ≡ map told_of (run_events o board (events_of o front)).answers
  front_answers board [] back h = refl
  front_answers board (e ∷ front) back h =
      ap₂ (λ (t : Told) (ts : List Told). t ∷ ts) (ap (head_or (told_by e)) h) (front_answers (step o board (event_of o.design e)).board front back (ap tail_of h))

pub front_is_legal : FrontIsLegal
front_is_legal o front back legal =
    record { attempts = front_attempts o front back legal.attempts; answers = front_answers o (opened o) front back legal.answers }
