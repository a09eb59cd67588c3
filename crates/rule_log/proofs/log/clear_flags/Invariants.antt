use Rattle.std.proofs.Common.{◌≡◌, ℕ, take, length}
use Rattle.std.specs.Prelude.{slice_index_or}
use Rattle.rule_log.proofs.Logs.{no_flag}
use Rattle.rule_log.proofs.Walks.{Walked}
use Rattle.rule_log.proofs.log.clear_flags.Given as goal

abbrev pub invariant-loop-register : goal.invariant-loop-register
invariant-loop-register l =
    record {
      count : length l.flags.items ≡ length l.fn.flags.items;
      capacity : l.flags.capacity ≡ l.fn.flags.capacity;
      walked : Walked (λ (r : ℕ). slice_index_or l.flags.items r no_flag ≡ no_flag) (λ (r : ℕ). slice_index_or l.flags.items r no_flag ≡ slice_index_or l.fn.flags.items r no_flag) (take l.register-index l.touched);
    }
