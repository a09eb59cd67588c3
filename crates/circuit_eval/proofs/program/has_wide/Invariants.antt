use Rattle.std.proofs.Common.{ℕ, ◌<◌}
use Rattle.circuit_eval.specs.Programs.{IsNarrow}
use Rattle.circuit_eval.proofs.program.has_wide.Given as goal

-- no node so far is wide
abbrev pub invariant-loop-id : goal.invariant-loop-id
invariant-loop-id l = (k : ℕ) → k < l.id → IsNarrow l.net k
