use Rattle.board_core.proofs.Plain.{keeps_plain}
use Rattle.board_core.proofs.laws.every_list_of_events_keeps_a_plain_position.Goals as goal

pub returns : goal.returns
returns c = keeps_plain
