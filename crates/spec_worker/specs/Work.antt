-- What a worker does at a seat: which entries its turns make, and how it ends.
use Rattle.std.specs.Prelude.{◌≡◌, ◌≤◌, ◌<◌, ◌⊎◌, ℕ, ◌+◌, Bool, true, false, List, Option}
use Rattle.kw_bits.specs.Faults.{Rose, last_count}
use Rattle.attempt_log.specs.declared.entry.Entry.{Entry}
use Rattle.attempt_log.specs.Entries.{settled_among, settles_among, stored_among, submits_among}
use Rattle.attempt_log.specs.Seats.{Grown}
use Rattle.attempt_log.specs.Setting.{DesignAndStimulus}
use Rattle.attempt_log.specs.declared.report.Report.{Report}
use Rattle.attempt_log.specs.declared.report.Ending.{Ending}
use Rattle.attempt_log.specs.declared.report.Ending.TheVariants as ending
use Rattle.spec_worker.specs.declared.Working.{Working}

-- so many of these entries store an attempt, so many settle something, and so many are settles; no more are submits
abbrev pub Counted : List Entry → ℕ → ℕ → ℕ → Type 0
Counted es stored settled turns = (stored_among es ≡ stored) × (settled_among es ≡ settled) × (settles_among es ≡ turns) × (submits_among es ≤ turns)

-- ---- counts

-- the count rose by this, unless it is at its last value
abbrev pub RoseBy : ℕ → ℕ → ℕ → Type 0
RoseBy old by new = new < last_count → new ≡ old + by

-- of the jobs that were given all were done, or all but the last, where memory ran out
abbrev pub Did : Bool → ℕ → ℕ → ℕ → Type 0
Did short given made new = RoseBy given made new ⊎ ((short ≡ true) × RoseBy given (made + 1) new)

-- ---- what is added to a seat's own entries

-- after the entries that are known come others, this many of each kind. They have a submit for each job that was done
pub record Gains (old : Option (List Entry)) (given stored settled turns : ℕ) (new : Option (List Entry)) (given_new : ℕ) (short : Bool) : Type 0 where
  pub more : List Entry
  pub grown : Grown old more new
  pub counted : Counted more stored settled turns
  pub did : Did short given (submits_among more) given_new

-- ---- one turn

abbrev pub is_short : Ending → Bool
is_short ending.Turns = false
is_short ending.Finished = false
is_short ending.NoMemory = true

-- how often a worker that ended so asked beyond its turns
abbrev pub beyond : Ending → ℕ
beyond ending.Turns = 0
beyond ending.Finished = 1
beyond ending.NoMemory = 1

-- a report's ending: no more turns were made than given, with Turns all of them, and with Finished the seat answered so
abbrev pub Ends : ℕ → Report → ℕ → ℕ → Type 0
Ends turns r ended ended_new = (r.ending ≡ ending.Turns → r.turns ≡ turns) × (r.ending ≡ ending.Finished → Rose ended ended_new) × (r.turns ≤ turns)

-- the seat keeps its number, its origin and its setting, and has as many more entries of its own, of each kind, as its
-- report says
pub record WorksAt {S O : Type 0} (turns : ℕ) (number : S → ℕ) (origin : S → O) (setting : S → Option DesignAndStimulus) (asked given ended : S → ℕ) (own : S → Option (List Entry)) (old new : Working S) : Type 0 where
  pub numbered : number new.seat ≡ number old.seat
  pub from : origin new.seat ≡ origin old.seat
  pub set : setting new.seat ≡ setting old.seat
  pub worker : new.report.worker ≡ number old.seat
  pub gains : Gains (own old.seat) (given old.seat) new.report.submitted new.report.settled new.report.turns (own new.seat) (given new.seat) (is_short new.report.ending)
  pub ends : Ends turns new.report (ended old.seat) (ended new.seat)
  pub asks : RoseBy (asked old.seat) (new.report.turns + beyond new.report.ending) (asked new.seat)
