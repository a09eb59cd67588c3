use Rattle.std.proofs.Common.{rules, sym, subst}
use Rattle.board_core.specs.Kept.{Kept}
use Rattle.board_lock.specs.Plays.{HoldsBoard, Served}
use Rattle.board_lock.proofs.Calls.{Sat}
use Rattle.board_lock.proofs.Turns.{holds_board, slot_out}
use Rattle.board_lock.proofs.lock.Lock.enter.Goals as goal

pub exchange-requires : goal.exchange-requires
exchange-requires g c = (search rules, slot_out c.draw-ticket.new.place.me c.wait_turn.new.place.me c.wait_turn.ensures.served)

pub returns-clause-holds : goal.returns-clause-holds
returns-clause-holds g c =
    let n = c.wait_turn.new.place.me in
    let held = holds_board c.args.place.now.me n c.exchange.new.seat.me c.exchange.result c.unwrap.result (subst (λ (x : Sat). Served x n) c.draw-ticket.ensures.waits.2 c.wait_turn.ensures.served) c.exchange.ensures.2 c.exchange.ensures.3 c.unwrap.ensures in
    subst (λ (k : Kept). HoldsBoard c.args.place.now.me k c.exchange.new.seat.me) (sym c.into_core.ensures) held
