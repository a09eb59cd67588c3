use Rattle.std.proofs.Common.{◌≡◌, ℕ, ◌<◌, ◌≤◌, None, length, get_or}
use Rattle.koika_assert.specs.Violations.{first_after}
use Rattle.koika_assert.proofs.watch.add_cycle.Given as goal

abbrev pub invariant-loop-number : goal.invariant-loop-number
invariant-loop-number l =
    record {
      count : length l.firsts.items ≡ length l.fn.firsts.items;
      added : (k : ℕ) → k < l.number → get_or l.firsts.items k None ≡ first_after l.cycle l.fired (get_or l.fn.firsts.items k None, get_or l.marks k 0);
      left : (k : ℕ) → l.number ≤ k → get_or l.firsts.items k None ≡ get_or l.fn.firsts.items k None;
    }
