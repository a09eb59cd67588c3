-- When a text refutes a formula, and otherwise its first fault: line by line, the clauses that are there change, and some line or
-- the formula has the clause without literals. LRAT (Cruz-Filipe et al., CADE 2017), whose clauses are numbered from 1.
use Rattle.std.specs.Prelude.{ℕ, zero, suc, ◌+◌, ◌||◌, ◌==◌, Bool, true, false, if◌then◌else◌, is_some, nat_lt, List, [], ◌∷◌, length, slice_get, Option, None, Some, Result, Ok, Err}
use Rattle.std.specs.List.{list_any}
use Rattle.kw_base.specs.Fault.{fault_at}
use Rattle.kw_base.specs.Place.{capped}
use Rattle.kw_base.specs.declared.fault.Fault.{Fault}
use Rattle.kw_base.specs.Texts.{lines_of}
use Rattle.clause_check.specs.Clauses.{Clause, Cnf}
use Rattle.clause_check.specs.Lines.{tokens_of}
use Rattle.clause_check.specs.Propagation.{Numbered, follows_by_hints}
use Rattle.clause_check.specs.Steps.{Step, skips, adds, drops, step_of}

-- how far a refutation has come: the clauses that are there, the greatest number of all that were, and whether one of them had no
-- literal
pub record Progress : Type 0 where
  pub there : Numbered
  pub last : ℕ
  pub is_refuted : Bool

abbrev pub is_empty : Clause → Bool
is_empty [] = true
is_empty (literal ∷ clause) = false

-- clauses numbered from 1 in order
abbrev pub numbered : List Clause → Numbered
numbered clauses zero = None
numbered clauses (suc k) = slice_get clauses k

-- before the first line, the clauses of the formula are there
abbrev pub begin : List Clause → Progress
begin clauses = record { there = numbered clauses; last = length clauses; is_refuted = list_any is_empty clauses }

-- one clause more, with a number above all others
abbrev pub with_clause : ℕ → Clause → Progress → Progress
with_clause number clause progress =
    record {
      there = λ n. if n == number then Some clause else progress.there n;
      last = number;
      is_refuted = progress.is_refuted || is_empty clause;
    }

-- without the clause of a number
abbrev pub without_clause : ℕ → Progress → Progress
without_clause number progress = record progress { there = λ n. if n == number then None else progress.there n }

-- a clause is added where its number is above all others, else 93, and where it follows by its hints, else 94
abbrev pub added : ℕ → Clause → List ℕ → Progress → Result Progress ℕ
added number clause hints progress =
    if nat_lt progress.last number then (if follows_by_hints progress.there clause hints then Ok (with_clause number clause progress) else Err 94)
    else Err 93

-- clauses are dropped one after another where they are there, else 94
abbrev pub dropped : List ℕ → Progress → Result Progress ℕ
dropped [] progress = Ok progress
dropped (number ∷ numbers) progress = if is_some (progress.there number) then dropped numbers (without_clause number progress) else Err 94

abbrev pub after_step : Option Step → Progress → Result Progress ℕ
after_step None progress = Err 93
after_step (Some skips) progress = Ok progress
after_step (Some (adds number clause hints)) progress = added number clause hints progress
after_step (Some (drops numbers)) progress = dropped numbers progress

-- what a line makes of a refutation, or its fault
unfoldable pub after_line : ℕ → List ℕ → Progress → Result Progress ℕ
after_line variables line progress = after_step (step_of variables (tokens_of line)) progress

-- the fault of a line, at its first column
abbrev pub fault_in : ℕ → ℕ → Fault
fault_in fault line = fault_at fault (record { line = line; column = 1 })

abbrev pub goes_on : Result Progress ℕ → ℕ → (Progress → Option Fault) → Option Fault
goes_on (Ok progress) line next = next progress
goes_on (Err fault) line next = Some (fault_in fault line)

-- the first fault of lines, the first of this number; past the last one 95, where no clause was without literals
abbrev pub fault_from : ℕ → Progress → ℕ → List (List ℕ) → Option Fault
fault_from variables progress number [] = if progress.is_refuted then None else Some (fault_in 95 number)
fault_from variables progress number (line ∷ lines) =
    goes_on (after_line variables line progress) number (λ next. fault_from variables next (capped (number + 1)) lines)

-- the first fault of a text whose first line has this number, or none: the text refutes the formula
unfoldable pub fault_of : Cnf → ℕ → List ℕ → Option Fault
fault_of formula first_line text = fault_from formula.variables (begin formula.clauses) first_line (lines_of text)
