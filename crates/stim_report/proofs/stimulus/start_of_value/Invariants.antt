use Rattle.std.proofs.Common.{◌≡◌, ◌+◌, ◌≤◌, ◌==◌, not, length, take}
use Rattle.std.specs.List.{suffix_len}
use Rattle.stim_report.proofs.stimulus.start_of_value.Given as goal

abbrev pub invariant-loop-start : goal.invariant-loop-start
invariant-loop-start l =
    (l.start ≤ length l.word) × (l.start + suffix_len (λ b. not (b == 61)) l.word ≡ length l.word + suffix_len (λ b. not (b == 61)) (take l.start l.word))

abbrev pub decreases-loop-start : goal.decreases-loop-start
decreases-loop-start l = l.start
