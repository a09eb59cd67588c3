use Rattle.std.proofs.Common.{◌≡◌, ◌+◌, ◌<◌, ◌≤◌, ℕ, length, None}
use Rattle.std.specs.Prelude.{slice_index_or}
use Rattle.lab_core.specs.Numbers.{RuleNumbers}
use Rattle.lab_core.specs.inner.Counting.{AreBelow, with_verdict}
use Rattle.lab_core.proofs.profile.note_all.Given as goal

-- the rules so far are counted, and those that are left are as they were
abbrev pub invariant-loop-rule : goal.invariant-loop-rule
invariant-loop-rule l =
    record {
      count : length l.rules.items ≡ length l.fn.rules.items;
      done : (rule : ℕ) (none : RuleNumbers) → rule < l.rule → slice_index_or l.rules.items rule none ≡ with_verdict l.cycle (slice_index_or l.fn.rules.items rule none) (slice_index_or l.verdicts rule None);
      below : (rule : ℕ) (none : RuleNumbers) → rule < l.rule → AreBelow (l.cycle + 1) (slice_index_or l.rules.items rule none);
      left : (rule : ℕ) (none : RuleNumbers) → l.rule ≤ rule → slice_index_or l.rules.items rule none ≡ slice_index_or l.fn.rules.items rule none;
    }
