use Rattle.board_core.proofs.Left.{going_on_lowers, submits_keep}
use Rattle.board_core.proofs.laws.a_board_that_goes_on_has_less_left.Goals as goal

pub returns : goal.returns
returns c = record { settle = going_on_lowers; submit = submits_keep }
