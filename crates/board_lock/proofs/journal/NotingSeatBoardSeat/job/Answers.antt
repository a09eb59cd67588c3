use Rattle.board_lock.proofs.Endings.{sees_more}
use Rattle.board_lock.proofs.journal.NotingSeatBoardSeat.job.Goals as goal

pub returns-clause-seen : goal.returns-clause-seen
returns-clause-seen g c = sees_more c.args.self.now.seat.place.me.0 c.ask.new.self.seat.place.me.0 c.ask.ensures.seen
