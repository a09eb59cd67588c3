use Rattle.std.proofs.Common.{◌≡◌, ℕ, length}
use Rattle.std.specs.Prelude.{slice_get, Some}
use Rattle.circuit_eval.specs.Programs.{Makes}
use Rattle.circuit_eval.specs.declared.program.Step.{Step}
use Rattle.circuit_eval.proofs.program.lay_out.Given as goal

-- the steps so far make the words of the nodes so far
abbrev pub invariant-loop-op : goal.invariant-loop-op
invariant-loop-op l = (length l.steps.items ≡ l.op-index) × ((k : ℕ) (step : Step) → slice_get l.steps.items k ≡ Some step → Makes l.net k step)
