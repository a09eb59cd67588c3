use Rattle.std.proofs.Common.{◌≡◌, ℕ, ◌<◌, ◌≤◌, length, get_or}
use Rattle.stim_report.specs.Tallies.{count_after}
use Rattle.stim_report.proofs.tally.add_fired.Given as goal

abbrev pub invariant-loop-rule : goal.invariant-loop-rule
invariant-loop-rule l =
    record {
      count : length l.counts ≡ length l.fn.counts;
      added : (rule : ℕ) → rule < l.rule → get_or l.counts rule 0 ≡ count_after l.fn.counts l.fired rule;
      left : (rule : ℕ) → l.rule ≤ rule → get_or l.counts rule 0 ≡ get_or l.fn.counts rule 0;
    }
