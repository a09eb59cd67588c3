use Rattle.std.proofs.Common.{◌≡◌, map, take}
use Rattle.circuit_eval.specs.declared.circuit.OutputWire.{OutputWire}
use Rattle.lint_text.specs.inner.Zeros.{is_zero}
use Rattle.lint_text.proofs.never.zero_outputs.Given as goal

abbrev pub invariant-loop-wire : goal.invariant-loop-wire
invariant-loop-wire l = l.marks ≡ map (λ (wire : OutputWire). is_zero l.fn.ops wire.id) (take l.wire-index l.outputs)
