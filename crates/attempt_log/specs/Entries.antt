-- Histories as lists of entries: which entry a call makes, whose it is, and of which kind. Whether a history can occur
-- on a board is no matter of this file.
use Rattle.std.specs.Prelude.{ℕ, Bool, true, false, ◌==◌, List}
use Rattle.std.specs.List.{count_by, filter}
use Rattle.attempt_log.specs.Attempt.{Attempted}
use Rattle.attempt_log.specs.declared.entry.Entry.{Entry}
use Rattle.attempt_log.specs.declared.entry.Entry.TheVariants as entry
use Rattle.attempt_log.specs.declared.entry.Settled.{Settled}
use Rattle.attempt_log.specs.declared.entry.Settled.TheVariants as settled
use Rattle.attempt_log.specs.declared.entry.Submitted.{Submitted}
use Rattle.attempt_log.specs.declared.entry.Submitted.TheVariants as submitted
use Rattle.attempt_log.specs.declared.entry.Taken.{Taken}
use Rattle.attempt_log.specs.declared.entry.Taken.TheVariants as taken

-- an answer to an attempt, without the attempt
abbrev pub taken_of : Submitted → Taken
taken_of submitted.Stored = taken.Stored
taken_of (submitted.Late a) = taken.Late
taken_of (submitted.Ahead a) = taken.Ahead
taken_of (submitted.Twice a) = taken.Twice

-- the entry of a worker that submits an attempt, and is answered so
abbrev pub submit_entry : ℕ → Attempted → Submitted → Entry
submit_entry worker a answer = entry.Submit worker a.cycle a.rule a.inputs a.run.events a.run.outcome (taken_of answer)

-- the entry of a worker that settles, and is answered so
abbrev pub settle_entry : ℕ → Settled → Entry
settle_entry worker answer = entry.Settle worker answer

-- the worker that made the call
abbrev pub worker_of : Entry → ℕ
worker_of (entry.Submit worker cycle rule inputs events outcome answer) = worker
worker_of (entry.Settle worker answer) = worker

-- the entries of a worker, in order
abbrev pub entries_by : ℕ → List Entry → List Entry
entries_by worker entries = filter (λ (e : Entry). worker_of e == worker) entries

-- ---- kinds of entries, to be counted

-- whether an entry is a submit's
abbrev pub is_submit : Entry → Bool
is_submit (entry.Submit worker cycle rule inputs events outcome answer) = true
is_submit (entry.Settle worker answer) = false

abbrev pub is_settle : Entry → Bool
is_settle (entry.Submit worker cycle rule inputs events outcome answer) = false
is_settle (entry.Settle worker answer) = true

abbrev pub was_stored : Taken → Bool
was_stored taken.Stored = true
was_stored taken.Late = false
was_stored taken.Ahead = false
was_stored taken.Twice = false

-- the board went on: a rule was committed or skipped, or a cycle was closed
abbrev pub goes_on : Settled → Bool
goes_on (settled.Committed cycle rule) = true
goes_on (settled.Skipped cycle rule cause) = true
goes_on (settled.Stale cycle rule read) = false
goes_on (settled.CycleClosed cycle) = true
goes_on (settled.Waiting cycle rule) = false
goes_on settled.Finished = false

-- an attempt was stored
abbrev pub is_stored : Entry → Bool
is_stored (entry.Submit worker cycle rule inputs events outcome answer) = was_stored answer
is_stored (entry.Settle worker answer) = false

-- a settle with which the board went on
abbrev pub is_settled : Entry → Bool
is_settled (entry.Submit worker cycle rule inputs events outcome answer) = false
is_settled (entry.Settle worker answer) = goes_on answer

-- ---- how many there are of each kind

-- the submits that were stored
abbrev pub stored_among : List Entry → ℕ
stored_among entries = count_by is_stored entries

-- the settles with which the board went on
abbrev pub settled_among : List Entry → ℕ
settled_among entries = count_by is_settled entries

abbrev pub settles_among : List Entry → ℕ
settles_among entries = count_by is_settle entries

abbrev pub submits_among : List Entry → ℕ
submits_among entries = count_by is_submit entries
