use Rattle.std.proofs.Common.{◌≡◌, take}
use Rattle.koika_top.specs.inner.CircuitRuns.{output_mask}
use Rattle.koika_top.proofs.text_circuit.output_mask.Given as goal

abbrev pub invariant-loop-line : goal.invariant-loop-line
invariant-loop-line l = l.mask.items ≡ output_mask (take l.line-index l.lines)
