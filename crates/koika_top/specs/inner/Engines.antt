-- What a run is that is made in batches. This serves private functions alone.
use Rattle.std.specs.Prelude.{◌≡◌, ℕ, ◌+◌, ◌≤◌, List, [], ◌∷◌, length, take, drop}
use Rattle.kw_bits.specs.BitVector.{BitVector}
use Rattle.one_rule.specs.Rows.{RowFits}
use Rattle.one_rule.specs.Run.{InputsByCycle, run_of}
use Rattle.one_rule.specs.Stimulus.{InputVectors, inputs_of}
use Rattle.one_rule.specs.declared.rows.Row.{Row}
use Rattle.typed_core.specs.declared.design.Parts.{Parts}
use Rattle.circuit_eval.specs.Machines.{after_steps, rows_after}

-- the rows of a run by the number of its cycles: one more than cycles, and those of fewer cycles are the first ones of more
pub record AreRows (rows : ℕ → List Row) : Type 0 where
  pub count : (n : ℕ) → length (rows n) ≡ n + 1
  pub front : (k n : ℕ) → k ≤ n → rows k ≡ take (k + 1) (rows n)

-- a design has run on a stimulus up to this cycle, and this is the cycle's row
pub record HasRun (design : Parts) (stimulus : InputVectors) (cycle : ℕ) (last : Row) : Type 0 where
  pub row : drop cycle (run_of design (inputs_of stimulus) cycle) ≡ last ∷ []
  pub fits : RowFits design last

-- the rows of a machine's run of n cycles from its beginning
abbrev pub rows_of : {M : Type 0} → (M → List BitVector → M) → (M → Row) → InputsByCycle → M → ℕ → List Row
rows_of step row_at inputs first n = row_at first ∷ rows_after step row_at inputs n 0 first

-- a machine has run from its beginning on a stimulus for its inputs up to this cycle
pub record StandsAfter {M : Type 0} (step : M → List BitVector → M) (input_widths : M → List ℕ) (first now : M) (stimulus : InputVectors) (cycle : ℕ) : Type 0 where
  pub steps : now ≡ after_steps step (inputs_of stimulus) cycle 0 first
  pub widths : stimulus.widths ≡ input_widths now
