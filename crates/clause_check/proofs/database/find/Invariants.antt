use Rattle.std.proofs.Common.{ℕ, ◌-◌, ◌<◌, ◌≤◌, length, slice_index}
use Rattle.clause_check.proofs.database.find.Given as goal

-- numbers before are smaller, those from `high` on aren't
abbrev pub invariant-loop-low : goal.invariant-loop-low
invariant-loop-low l =
    record {
      ordered : l.low ≤ l.high;
      within : l.high ≤ length l.numbers;
      before : (i : ℕ) → i < l.low → slice_index l.numbers i < l.number;
      after : (i : ℕ) → l.high ≤ i → i < length l.numbers → l.number ≤ slice_index l.numbers i;
    }

abbrev pub decreases-loop-low : goal.decreases-loop-low
decreases-loop-low l = l.high - l.low
