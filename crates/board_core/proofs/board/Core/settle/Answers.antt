use Rattle.std.proofs.Common.{◌≡◌, sym, subst}
use Rattle.board_core.specs.Board.{Opening}
use Rattle.board_core.specs.Kept.{Kept, StandsFor}
use Rattle.board_core.specs.Position.{IsOpening}
use Rattle.board_core.proofs.Left.{settle_measures}
use Rattle.board_core.proofs.Plain.{settles_by_firing}
use Rattle.board_core.proofs.board.Core.settle.Goals as goal

pub returns-clause-fires : goal.returns-clause-fires
returns-clause-fires c board st plain =
    let same : c.self.inside.board ≡ c.args.self.now = c.self.view_is in
    let o : Opening = c.args.self.now.opening in
    let sure : IsOpening o = subst (λ (k : Kept). IsOpening k.opening) same c.recall.ensures.opening in
    let step = c.settle-answer.ensures.step board (subst (λ (k : Kept). StandsFor k board) (sym same) st) in
    settles_by_firing o board c.settle-answer.result sure plain (rw (← same) (sym step.0))

pub returns-clause-less : goal.returns-clause-less
returns-clause-less c goes =
    let m = settle_measures c.self.inside.board c.settle-answer.new.self c.recall.ensures c.settle-answer.ensures.opening c.settle-answer.result c.settle-answer.ensures.step in
    rw (← c.self.view_is) (m.0 goes)

pub returns-clause-left : goal.returns-clause-left
returns-clause-left c stays =
    let m = settle_measures c.self.inside.board c.settle-answer.new.self c.recall.ensures c.settle-answer.ensures.opening c.settle-answer.result c.settle-answer.ensures.step in
    rw (← c.self.view_is) (m.1 stays)
