use Rattle.std.proofs.Common.{◌≡◌, map, take}
use Rattle.btor2_model.specs.Rules.{is_input}
use Rattle.btor2_model.specs.Run.{lines_by_rule}
use Rattle.btor2_net.specs.inner.Wires.{input_wire}
use Rattle.btor2_net.proofs.wires.inputs.Given as goal

abbrev pub invariant-loop-line : goal.invariant-loop-line
invariant-loop-line l = l.inputs ≡ map (input_wire l.nodes) (lines_by_rule is_input (take l.line-index l.lines))
