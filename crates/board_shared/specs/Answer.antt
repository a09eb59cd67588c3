-- What a shared board answers to an attempt. Which attempts are for the board is attempt_log's to say, and what a core
-- answers is board_core's.
use Rattle.std.specs.Prelude.{◌≡◌, ℕ, Bool, true, false, cond}
use Rattle.attempt_log.specs.Attempt.{Attempted}
use Rattle.attempt_log.specs.declared.entry.Submitted.{Submitted}
use Rattle.attempt_log.specs.declared.entry.Submitted.TheVariants as submitted
use Rattle.board_shared.specs.declared.answer.SharedSubmitted.{SharedSubmitted}
use Rattle.board_shared.specs.declared.answer.SharedSubmitted.TheVariants as shared

-- the attempt isn't for the board
abbrev pub is_stranger : SharedSubmitted → Bool
is_stranger shared.Stored = false
is_stranger (shared.Late a) = false
is_stranger (shared.Ahead a) = false
is_stranger (shared.Twice a) = false
is_stranger (shared.Full a) = false
is_stranger (shared.Stranger a) = true

-- as many attempts as may be were stored
abbrev pub is_full : SharedSubmitted → Bool
is_full shared.Stored = false
is_full (shared.Late a) = false
is_full (shared.Ahead a) = false
is_full (shared.Twice a) = false
is_full (shared.Full a) = true
is_full (shared.Stranger a) = false

-- the attempt was stored
abbrev pub is_stored : SharedSubmitted → Bool
is_stored shared.Stored = true
is_stored (shared.Late a) = false
is_stored (shared.Ahead a) = false
is_stored (shared.Twice a) = false
is_stored (shared.Full a) = false
is_stored (shared.Stranger a) = false

-- how often it was stored
abbrev pub stored_in : SharedSubmitted → ℕ
stored_in told = cond (is_stored told) 1 0

-- where the core answers, this holds of its answer
abbrev pub IfByCore : SharedSubmitted → (Submitted → Type 0) → Type 0
IfByCore shared.Stored F = F submitted.Stored
IfByCore (shared.Late a) F = F (submitted.Late a)
IfByCore (shared.Ahead a) F = F (submitted.Ahead a)
IfByCore (shared.Twice a) F = F (submitted.Twice a)
IfByCore (shared.Full a) F = Unit {0}
IfByCore (shared.Stranger a) F = Unit {0}

-- the attempt that was handed in is the one that is handed back
abbrev pub HandsBack : Attempted → SharedSubmitted → Type 0
HandsBack a shared.Stored = Unit {0}
HandsBack a (shared.Late back) = back ≡ a
HandsBack a (shared.Ahead back) = back ≡ a
HandsBack a (shared.Twice back) = back ≡ a
HandsBack a (shared.Full back) = back ≡ a
HandsBack a (shared.Stranger back) = back ≡ a
