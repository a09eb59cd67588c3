use Rattle.std.specs.Prelude.{◌≡◌, ◌+◌, sum_by}
use Rattle.board_shared.proofs.shared.SharedBoard.stored.Given as goal

-- what was put together and what is left are all that was handed in
abbrev pub invariant-loop-count : goal.invariant-loop-count
invariant-loop-count g l =
    (l.all.parts + sum_by (λ c. c.share.parts) l.counts.items ≡ sum_by (λ c. c.share.parts) l.fn.counts.items)
    × (l.all.amount + sum_by (λ c. c.amount) l.counts.items ≡ sum_by (λ c. c.amount) l.fn.counts.items)

abbrev pub decreases-loop-count : goal.decreases-loop-count
decreases-loop-count g l = goal.left-loop-count g l
