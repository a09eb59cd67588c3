-- What a seat's calls promise. What only some seats expose, as their setting or their entries, is an `Option`.
use Rattle.std.specs.Prelude.{◌≡◌, ℕ, Bool, true, false, List, ◌++◌, [], ◌∷◌, Option, Some, option_map, if◌then◌else◌}
use Rattle.kw_bits.specs.Faults.{one_more}
use Rattle.attempt_log.specs.Attempt.{Attempted}
use Rattle.attempt_log.specs.Setting.{attempt_of, task_of}
use Rattle.attempt_log.specs.declared.entry.Entry.{Entry}
use Rattle.attempt_log.specs.declared.entry.Settled.{Settled}
use Rattle.attempt_log.specs.declared.entry.Settled.TheVariants as settled
use Rattle.attempt_log.specs.declared.entry.Submitted.{Submitted}
use Rattle.attempt_log.specs.declared.entry.Submitted.TheVariants as submitted
use Rattle.attempt_log.specs.declared.job.Job.{Job}
use Rattle.attempt_log.specs.declared.job.JobAnswer.{JobAnswer}
use Rattle.attempt_log.specs.declared.job.JobAnswer.TheVariants as answer
use Rattle.attempt_log.specs.declared.seat.Task.{Task}

-- where a job is given, this holds of it
abbrev pub IfJob : JobAnswer → (Job → Type 0) → Type 0
IfJob (answer.Job job) F = F job
IfJob answer.Idle F = Unit {0}
IfJob answer.Finished F = Unit {0}

abbrev pub gives_job : JobAnswer → Bool
gives_job (answer.Job job) = true
gives_job answer.Idle = false
gives_job answer.Finished = false

abbrev pub has_finished : JobAnswer → Bool
has_finished (answer.Job job) = false
has_finished answer.Idle = false
has_finished answer.Finished = true

-- a settle is answered that the board has finished
abbrev pub is_finished : Settled → Bool
is_finished (settled.Committed cycle rule) = false
is_finished (settled.Skipped cycle rule cause) = false
is_finished (settled.Stale cycle rule read) = false
is_finished (settled.CycleClosed cycle) = false
is_finished (settled.Waiting cycle rule) = false
is_finished settled.Finished = true

-- the attempt that was handed in is the one that is handed back
abbrev pub HandsBack : Attempted → Submitted → Type 0
HandsBack a submitted.Stored = Unit {0}
HandsBack a (submitted.Late back) = back ≡ a
HandsBack a (submitted.Ahead back) = back ≡ a
HandsBack a (submitted.Twice back) = back ≡ a

-- the last task that was given, after this answer
abbrev pub last_task : Option Task → JobAnswer → Option Task
last_task before (answer.Job job) = Some (task_of (attempt_of job))
last_task before answer.Idle = before
last_task before answer.Finished = before

-- a count after a call that raises it in this case
abbrev pub one_more_if : Bool → ℕ → ℕ
one_more_if rises count = if rises then one_more count else count

-- the entries have grown by these, where they are exposed
abbrev pub Grown : Option (List Entry) → List Entry → Option (List Entry) → Type 0
Grown old more new = new ≡ option_map (λ (entries : List Entry). entries ++ more) old

-- the history that is seen has grown, by any entries
abbrev pub SeesMore : Option (List Entry) → Option (List Entry) → Type 0
SeesMore old new = (more : List Entry) × Grown old more new

-- it has grown, and this entry is the last
abbrev pub SeesLast : Option (List Entry) → Entry → Option (List Entry) → Type 0
SeesLast old e new = (more : List Entry) × Grown old (more ++ e ∷ []) new
