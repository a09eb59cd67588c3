use Rattle.std.proofs.Common.{sym, subst}
use Rattle.attempt_log.specs.declared.cause.Verdict.{Verdict}
use Rattle.board_core.specs.Board.{Board, judged}
use Rattle.board_core.specs.Kept.{IsAt}
use Rattle.board_core.specs.declared.place.Place.{Place}
use Rattle.attempt_log.specs.Attempt.{Attempted}
use Rattle.typed_core.specs.declared.design.Node.{Node}
use Rattle.board_core.proofs.place.Place.judge.Goals as goal

abbrev Goes : Place → Board → Node → Attempted → Verdict → Type 0
Goes place board node a v = IsAt a.design place (judged board node a v).board.walk (judged board node a v).board.settled

pub returns-in-Commit-clause-at : goal.returns-in-Commit-clause-at
returns-in-Commit-clause-at c board h =
    subst (Goes c.commit.new.self board c.args.node.now c.args.attempt.now) (sym c.in-Commit.is) (c.commit.ensures.at board.walk board.settled h)

pub returns-in-Skip-clause-at : goal.returns-in-Skip-clause-at
returns-in-Skip-clause-at c board h =
    subst (Goes c.skip.new.self board c.args.node.now c.args.attempt.now) (sym c.in-Skip.is) (c.skip.ensures.at c.args.attempt.now.design board.walk board.settled h)
