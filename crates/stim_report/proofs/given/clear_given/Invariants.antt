use Rattle.std.proofs.Common.{◌≡◌, ◌<◌, ℕ, true, false, length, drop, get_or}
use Rattle.std.specs.List.{AllByRecursion}
use Rattle.one_rule.specs.Stimulus.{Assignment}
use Rattle.stim_report.specs.Assignments.{is_assigned}
use Rattle.stim_report.proofs.given.clear_given.Given as goal

abbrev pub invariant-loop-assignment : goal.invariant-loop-assignment
invariant-loop-assignment l =
    record {
      count : length l.given.items ≡ length l.fn.given.items;
      inputs : AllByRecursion (λ (a : Assignment). a.0 < length l.fn.given.items) (drop l.assignment-index l.line);
      left : (k : ℕ) → get_or l.given.items k false ≡ true → is_assigned (drop l.assignment-index l.line) k ≡ true;
    }
