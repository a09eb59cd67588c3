use Rattle.board_core.proofs.Plain.{settles_by_firing}
use Rattle.board_core.proofs.laws.a_settled_rule_is_told_by_its_firing.Goals as goal

pub returns : goal.returns
returns c = settles_by_firing
