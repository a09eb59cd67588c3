use Rattle.std.proofs.Common.{◌≡◌, take}
use Rattle.btor2_model.specs.Rules.{is_state}
use Rattle.btor2_model.specs.Run.{ids_of}
use Rattle.btor2_model.proofs.states.state_ids.Given as goal

abbrev pub invariant-loop-line : goal.invariant-loop-line
invariant-loop-line l = l.ids.items ≡ ids_of is_state (take l.line-index l.lines)
