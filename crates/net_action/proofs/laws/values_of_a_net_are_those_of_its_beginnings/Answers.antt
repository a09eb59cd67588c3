use Rattle.net_action.proofs.Growth.{values_of_beginnings}
use Rattle.net_action.proofs.laws.values_of_a_net_are_those_of_its_beginnings.Goals as goal

pub returns : goal.returns
returns c = values_of_beginnings
