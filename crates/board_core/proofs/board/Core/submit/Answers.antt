use Rattle.board_core.proofs.Left.{submit_measures}
use Rattle.board_core.proofs.board.Core.submit.Goals as goal

pub returns-clause-left : goal.returns-clause-left
returns-clause-left c =
    rw (← c.self.view_is) (submit_measures c.self.inside.board c.submit-answer.new.self c.recall.ensures c.submit-answer.ensures.opening c.args.attempt _ c.submit-answer.ensures.step)
