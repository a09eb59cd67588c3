use Rattle.std.proofs.Common.{◌≡◌, ℕ, ◌+◌, ◌<◌, ◌≤◌, length, get_or}
use Rattle.stim_report.specs.Summary.{fired_count}
use Rattle.stim_report.proofs.tally.add_counts.Given as goal

abbrev pub invariant-loop-rule : goal.invariant-loop-rule
invariant-loop-rule l =
    record {
      count : length l.counts.items ≡ length l.fn.counts.items;
      added : (rule : ℕ) → rule < l.rule → get_or l.counts.items rule 0 ≡ get_or l.fn.counts.items rule 0 + fired_count l.rows rule;
      left : (rule : ℕ) → l.rule ≤ rule → get_or l.counts.items rule 0 ≡ get_or l.fn.counts.items rule 0;
    }
