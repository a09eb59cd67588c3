use Rattle.std.proofs.Common.{◌≡◌, ◌+◌, ◌≤◌, ◌==◌, not, length, take}
use Rattle.std.specs.List.{suffix_len}
use Rattle.journal_check.proofs.access.start_of_value.Given as goal

abbrev pub invariant-loop-start : goal.invariant-loop-start
invariant-loop-start l =
    (l.start ≤ length l.token) × (l.start + suffix_len (λ b. not (b == 61)) l.token ≡ length l.token + suffix_len (λ b. not (b == 61)) (take l.start l.token))

abbrev pub decreases-loop-start : goal.decreases-loop-start
decreases-loop-start l = l.start
