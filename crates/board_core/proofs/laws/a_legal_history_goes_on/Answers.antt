use Rattle.board_core.proofs.Histories.{front_is_legal, legal_goes_on, submits_alike}
use Rattle.board_core.proofs.laws.a_legal_history_goes_on.Goals as goal

pub returns : goal.returns
returns c = record { alike = submits_alike; more = legal_goes_on; front = front_is_legal }
