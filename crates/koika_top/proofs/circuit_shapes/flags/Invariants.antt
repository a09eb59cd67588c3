use Rattle.std.proofs.Common.{◌≡◌, filter, map, take}
use Rattle.net_graph.specs.Nets.{widths_of}
use Rattle.koika_top.specs.CircuitShapes as shapes
use Rattle.koika_top.proofs.circuit_shapes.flags.Given as goal

abbrev pub invariant-loop-wire : goal.invariant-loop-wire
invariant-loop-wire l = l.names ≡ map shapes.name_of (filter (shapes.is_flag (widths_of l.net)) (take l.wire-index l.wires))
