use Rattle.std.proofs.Common.{◌≡◌, ℕ, ◌<◌, ◌≤◌, None, length, get_or}
use Rattle.std.specs.List.{position_from}
use Rattle.std.specs.Option.{option_or}
use Rattle.stim_report.specs.Summary.{has_fired}
use Rattle.koika_assert.proofs.watch.add_firsts.Given as goal

abbrev pub invariant-loop-number : goal.invariant-loop-number
invariant-loop-number l =
    record {
      count : length l.firsts.items ≡ length l.fn.firsts.items;
      added : (k : ℕ) → k < l.number → get_or l.firsts.items k None ≡ option_or (get_or l.fn.firsts.items k None) (position_from (has_fired (get_or l.marks k 0)) l.cycle l.rows);
      left : (k : ℕ) → l.number ≤ k → get_or l.firsts.items k None ≡ get_or l.fn.firsts.items k None;
    }
