use Rattle.board_lock.proofs.Since.{since_new}
use Rattle.board_lock.proofs.seat.LockSeat.new.Goals as goal

pub invariant_of-result-clause-since : goal.invariant_of-result-clause-since
invariant_of-result-clause-since g c = since_new c.args.place.me.0.part c.args.place.me.0.seen c.requires.begun c.requires.mine
