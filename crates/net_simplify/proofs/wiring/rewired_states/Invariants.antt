use Rattle.std.proofs.Common.{◌≡◌, map, take}
use Rattle.net_simplify.specs.inner.Passes.{moved_state}
use Rattle.net_simplify.proofs.wiring.rewired_states.Given as goal

abbrev pub invariant-loop-wire : goal.invariant-loop-wire
invariant-loop-wire l = l.wires ≡ map (moved_state l.places) (take l.wire-index l.states)
