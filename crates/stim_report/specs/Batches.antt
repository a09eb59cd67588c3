-- A run that is made in batches: each begins with the row that the one before ended with.
use Rattle.std.specs.Prelude.{◌≡◌, ◌≢◌, ℕ, ◌-◌, ◌≤◌, List, [], ◌∷◌, ◌++◌, length, drop}
use Rattle.std.specs.List.{AllByRecursion, fold}
use Rattle.one_rule.specs.declared.rows.Row.{Row}
use Rattle.stim_report.specs.Report.{report, report_part}
use Rattle.stim_report.specs.declared.shape.Shape.{Shape}

-- the rows so far and those of a batch that goes on from them
abbrev pub joined : List Row → List Row → List Row
joined [] batch = batch
joined (row ∷ rows) batch = (row ∷ rows) ++ drop 1 batch

-- the cycle that rows end with
abbrev pub last_cycle : List Row → ℕ
last_cycle rows = length rows - 1

-- the report of the rows so far, and that of a batch after them, are the report of both
abbrev pub PartsJoin : Shape → Type 0
PartsJoin shape = (rows batch : List Row) → length rows ≢ 1 → report shape rows ++ report_part shape batch (last_cycle rows) ≡ report shape (joined rows batch)

-- the reports of batches, where each goes on from the cycle that the rows so far end with
abbrev pub reports_behind : Shape → List Row → List (List Row) → List ℕ
reports_behind shape rows [] = []
reports_behind shape rows (batch ∷ batches) = report_part shape batch (last_cycle rows) ++ reports_behind shape (joined rows batch) batches

-- the reports of a run's batches, of a cycle or more each, are the report of the run
abbrev pub BatchesJoin : Shape → Type 0
BatchesJoin shape = (batches : List (List Row)) → AllByRecursion (λ (batch : List Row). 2 ≤ length batch) batches → reports_behind shape [] batches ≡ report shape (fold joined [] batches)
