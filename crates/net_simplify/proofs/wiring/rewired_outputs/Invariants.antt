use Rattle.std.proofs.Common.{◌≡◌, map, take}
use Rattle.net_simplify.specs.inner.Passes.{moved_output}
use Rattle.net_simplify.proofs.wiring.rewired_outputs.Given as goal

abbrev pub invariant-loop-wire : goal.invariant-loop-wire
invariant-loop-wire l = l.wires ≡ map (moved_output l.places) (take l.wire-index l.outputs)
