use Rattle.board_core.proofs.Plain.{histories_are_plain}
use Rattle.board_core.proofs.laws.a_legal_history_leaves_a_plain_board.Goals as goal

pub returns : goal.returns
returns c = histories_are_plain
