use Rattle.std.proofs.Common.{◌≡◌, map, take}
use Rattle.btor2_model.specs.Rules.{is_state}
use Rattle.btor2_model.specs.Run.{lines_by_rule}
use Rattle.btor2_model.specs.Table.{value_in}
use Rattle.btor2_net.specs.inner.Wires.{state_wire}
use Rattle.btor2_net.proofs.wires.states.Given as goal

abbrev pub invariant-loop-line : goal.invariant-loop-line
invariant-loop-line l = l.states ≡ map (state_wire l.nodes l.constants (value_in l.inits) (value_in l.nexts)) (lines_by_rule is_state (take l.line-index l.lines))
