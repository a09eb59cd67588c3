-- What private functions alone cite of this crate's `Marks`.
use Rattle.std.specs.Prelude.{◌≡◌, ℕ, ◌<◌, Bool, Option, None, List, length, slice_index, slice_index_or}
use Rattle.std.specs.List.{position_from}
use Rattle.std.specs.Option.{option_or}
use Rattle.one_rule.specs.declared.rows.Row.{Row}
use Rattle.stim_report.specs.Summary.{has_fired}
use Rattle.koika_assert.specs.Violations.{first_after}

-- a mark without a cycle gets the first that its rule fired in, by rows of which the first is that of this cycle
pub record AddsFirsts (marks : List ℕ) (cycle : ℕ) (rows : List Row) (old new : List (Option ℕ)) : Type 0 where
  pub count : length new ≡ length old
  pub added : (number : ℕ) → number < length old
      → slice_index_or new number None ≡ option_or (slice_index_or old number None) (position_from (has_fired (slice_index marks number)) cycle rows)

-- a mark without a cycle gets this one where its rule fired
pub record AddsCycle (marks : List ℕ) (cycle : ℕ) (fired : List Bool) (old new : List (Option ℕ)) : Type 0 where
  pub count : length new ≡ length old
  pub added : (number : ℕ) → number < length old → slice_index_or new number None ≡ first_after cycle fired (slice_index_or old number None, slice_index marks number)
