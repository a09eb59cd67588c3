-- What private functions alone cite of this crate's `Work`.
use Rattle.std.specs.Prelude.{◌≡◌, ℕ, Bool, true, false, cond, List, [], ◌∷◌, Option}
use Rattle.attempt_log.specs.declared.entry.Entry.{Entry}
use Rattle.attempt_log.specs.Entries.{is_settle, is_settled, is_stored, is_submit}
use Rattle.attempt_log.specs.Seats.{Grown}
use Rattle.spec_worker.specs.declared.Turn.{Turn}
use Rattle.spec_worker.specs.declared.Turn.TheVariants as turn

-- 1 where it is so, and else 0
abbrev pub once : Bool → ℕ
once b = cond b 1 0

-- ---- one turn

-- what a turn made: whether an attempt was stored, a settle went on, a settle was made, and the board has finished
abbrev pub turn_stored : Turn → ℕ
turn_stored (turn.Made stored taken) = stored
turn_stored turn.Finished = 0
turn_stored turn.NoMemory = 0

abbrev pub turn_taken : Turn → ℕ
turn_taken (turn.Made stored taken) = taken
turn_taken turn.Finished = 0
turn_taken turn.NoMemory = 0

abbrev pub turn_made : Turn → ℕ
turn_made (turn.Made stored taken) = 1
turn_made turn.Finished = 0
turn_made turn.NoMemory = 0

abbrev pub has_finished : Turn → Bool
has_finished (turn.Made stored taken) = false
has_finished turn.Finished = true
has_finished turn.NoMemory = false

-- memory ran out in the turn, and the worker ended so
abbrev pub was_short : Turn → Bool
was_short (turn.Made stored taken) = false
was_short turn.Finished = false
was_short turn.NoMemory = true

-- an entry comes after those that are known: a submit, which was stored so often, or a settle, which went on so often
abbrev pub HandsIn : Option (List Entry) → ℕ → Option (List Entry) → Type 0
HandsIn old stored new = (e : Entry) × Grown old (e ∷ []) new × (is_submit e ≡ true) × (is_settle e ≡ false) × (once (is_stored e) ≡ stored) × (is_settled e ≡ false)

abbrev pub Settles : Option (List Entry) → ℕ → Option (List Entry) → Type 0
Settles old taken new = (e : Entry) × Grown old (e ∷ []) new × (is_submit e ≡ false) × (is_settle e ≡ true) × (is_stored e ≡ false) × (once (is_settled e) ≡ taken)
