use Rattle.board_lock.proofs.Endings.{sees_more}
use Rattle.board_lock.proofs.seat.LockSeatBoardSeat.job.Goals as goal

pub returns-clause-seen : goal.returns-clause-seen
returns-clause-seen g c = sees_more c.args.self.now.place.me.0 c.ask.new.self.place.me.0 c.ask.ensures.prefix
