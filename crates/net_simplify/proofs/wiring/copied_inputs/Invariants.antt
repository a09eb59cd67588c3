use Rattle.std.proofs.Common.{◌≡◌, take}
use Rattle.net_simplify.proofs.wiring.copied_inputs.Given as goal

abbrev pub invariant-loop-wire : goal.invariant-loop-wire
invariant-loop-wire l = l.wires ≡ take l.wire-index l.inputs
