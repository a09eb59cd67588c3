use Rattle.std.proofs.Common.{◌≡◌, map, take}
use Rattle.btor2_model.specs.Rules.{is_output}
use Rattle.btor2_model.specs.Run.{lines_by_rule}
use Rattle.btor2_net.specs.inner.Wires.{output_wire}
use Rattle.btor2_net.proofs.wires.outputs.Given as goal

abbrev pub invariant-loop-line : goal.invariant-loop-line
invariant-loop-line l = l.outputs ≡ map (output_wire l.nodes) (lines_by_rule is_output (take l.line-index l.lines))
