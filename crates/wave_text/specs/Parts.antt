-- A dump that is made in batches of rows: what is written of the rows so far, and what is left to write after the last
-- one.
use Rattle.std.specs.Prelude.{◌≡◌, ℕ, ⊤, ◌+◌, ◌*◌, ◌≤◌, List, [], ◌∷◌, ◌++◌, length}
use Rattle.kw_bits.specs.BitVector.{BitVector}
use Rattle.one_rule.specs.Run.{InputsByCycle}
use Rattle.one_rule.specs.declared.rows.Row.{Row}
use Rattle.stim_report.specs.Batches.{joined, last_cycle}
use Rattle.stim_report.specs.Summary.{last_values}
use Rattle.stim_report.specs.declared.shape.Shape.{Shape}
use Rattle.wave_text.specs.Waves.{dump, edge, edges, head, last_levels, levels, no_levels, time, variables}
use Rattle.wave_text.specs.declared.level.Level.{Level}

-- the values at each rising edge but the last, whose inputs and rules aren't known before the next row
abbrev pub moments_before_last : InputsByCycle → ℕ → List Row → List (List Level)
moments_before_last inputs cycle [] = []
moments_before_last inputs cycle (row ∷ []) = []
moments_before_last inputs cycle (row ∷ next ∷ rows) = levels (inputs (cycle + 1)) row.regs next.fired ∷ moments_before_last inputs (cycle + 1) (next ∷ rows)

-- what is written of the rows so far
abbrev pub part : Shape → InputsByCycle → List Row → List ℕ
part shape inputs rows = edges (variables shape) 0 (no_levels shape) (moments_before_last inputs 0 rows)

-- the values of the last of these moments, or the values before them
abbrev pub last_of : List Level → List (List Level) → List Level
last_of before [] = before
last_of before (now ∷ later) = last_of now later

-- what is known of the rows so far: their last cycle, the values that were written last, and the registers of the last
-- row
pub record Progress : Type 0 where
  pub cycle : ℕ
  pub levels : List Level
  pub registers : List BitVector

-- what is known of these rows
unfoldable pub progress : Shape → InputsByCycle → List Row → Progress
progress shape inputs rows = record {
  cycle = last_cycle rows;
  levels = last_of (no_levels shape) (moments_before_last inputs 0 rows);
  registers = last_values rows;
}

-- a batch begins with the registers that the rows so far end with
abbrev pub GoesOn : List Row → List Row → Type 0
GoesOn [] batch = ⊤
GoesOn (row ∷ rows) [] = ⊤
GoesOn (row ∷ rows) (first ∷ batch) = first.regs ≡ last_values (row ∷ rows)

-- after a batch that goes on from rows, these and the batch are the rows so far, and the text is what is written of the
-- batch
pub record TakesRows (shape : Shape) (inputs : InputsByCycle) (before batch : List Row) (now : Progress) (text : List ℕ) : Type 0 where
  pub rows : now ≡ progress shape inputs (joined before batch)
  pub written : part shape inputs (joined before batch) ≡ part shape inputs before ++ text

-- what is left to write after the last row
unfoldable pub ending : Shape → Progress → List ℕ
ending shape p = edge (variables shape) p.cycle p.levels (last_levels shape p.registers) ++ time (10 * (p.cycle + 1))

-- the head, what is written of the rows and the ending are the dump
abbrev pub PartsJoin : Type 0
PartsJoin = (shape : Shape) (inputs : InputsByCycle) (rows : List Row) → 1 ≤ length rows
    → head shape ++ part shape inputs rows ++ ending shape (progress shape inputs rows) ≡ dump shape inputs rows
