use Rattle.std.proofs.Common.{sym, ap, subst}
use Rattle.std.specs.Prelude.{IfOk}
use Rattle.board_core.specs.Candidates.{Chooses}
use Rattle.board_core.specs.History.{IsLegal, board_after}
use Rattle.board_lock.specs.declared.view.View.{View}
use Rattle.board_lock.proofs.Endings.{past_told}
use Rattle.board_lock.proofs.seat.LockSeat.ask.Goals as goal

pub count-requires : goal.count-requires
count-requires g c =
    let v : View = c.look-answer.new.self.place.me.0 in
    past_told c.look-answer.result v.opened v.seen c.args.pick c.look-answer.ensures.answer

pub returns-clause-answer : goal.returns-clause-answer
returns-clause-answer g c = subst (λ (v : View). IfOk c.look-answer.result (Chooses v.opened (board_after v.opened v.seen) c.args.pick)) (sym (ap (λ p. p.me.0) c.count.ensures.place)) c.look-answer.ensures.answer

pub returns-clause-legal : goal.returns-clause-legal
returns-clause-legal g c = subst (λ (v : View). IsLegal v.opened v.seen) (sym (ap (λ p. p.me.0) c.count.ensures.place)) c.look-answer.ensures.legal
