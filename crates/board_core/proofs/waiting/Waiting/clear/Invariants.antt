use Rattle.std.proofs.Common.{◌≡◌, ◌++◌, None, drop, replicate}
use Rattle.board_core.proofs.waiting.Waiting.clear.Given as goal

abbrev pub invariant-loop-rule : goal.invariant-loop-rule
invariant-loop-rule l = l.self-inside.attempts.items ≡ replicate l.rule None ++ drop l.rule l.fn.self
