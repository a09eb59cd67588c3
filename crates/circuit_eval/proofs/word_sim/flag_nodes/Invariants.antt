use Rattle.std.proofs.Common.{◌≡◌, take}
use Rattle.net_graph.specs.Nets.{widths_of}
use Rattle.circuit_eval.specs.Run.{flag_nodes}
use Rattle.circuit_eval.proofs.word_sim.flag_nodes.Given as goal

abbrev pub invariant-loop-wire : goal.invariant-loop-wire
invariant-loop-wire l = l.nodes.items ≡ flag_nodes (widths_of l.net) (take l.wire-index l.outputs)
