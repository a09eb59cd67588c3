-- What private functions alone cite of this crate's `Tallies`.
use Rattle.std.specs.Prelude.{◌≡◌, ℕ, Bool, ◌+◌, ◌<◌, List, length, slice_index}
use Rattle.one_rule.specs.declared.rows.Row.{Row}
use Rattle.stim_report.specs.Summary.{fired_count}
use Rattle.stim_report.specs.Tallies.{count_after}

-- to each rule's count is added in how many cycles of the rows it fired
pub record AddsCounts (old new : List ℕ) (rows : List Row) : Type 0 where
  pub count : length new ≡ length old
  pub added : (rule : ℕ) → rule < length old → slice_index new rule ≡ slice_index old rule + fired_count rows rule

-- to each rule's count 1 is added where its flag is true
pub record AddsFired (old new : List ℕ) (fired : List Bool) : Type 0 where
  pub count : length new ≡ length old
  pub added : (rule : ℕ) → rule < length old → slice_index new rule ≡ count_after old fired rule
