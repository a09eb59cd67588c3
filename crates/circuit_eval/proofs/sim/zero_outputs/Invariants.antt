use Rattle.std.proofs.Common.{◌≡◌, take}
use Rattle.net_graph.specs.Nets.{widths_of}
use Rattle.circuit_eval.specs.Run.{zero_outputs}
use Rattle.circuit_eval.proofs.sim.zero_outputs.Given as goal

abbrev pub invariant-loop-wire : goal.invariant-loop-wire
invariant-loop-wire l = l.values.items ≡ zero_outputs (widths_of l.net) (take l.wire-index l.outputs)
