use Rattle.board_lock.proofs.Endings.{extends_legal, own_grown, sees_last}
use Rattle.board_lock.proofs.seat.LockSeatBoardSeat.submit.Goals as goal

pub returns-clause-seen : goal.returns-clause-seen
returns-clause-seen g c = sees_last c.args.self.now.place.me.0 c.submit.new.self.place.me.0 _ c.submit.ensures.made.1

pub returns-clause-own : goal.returns-clause-own
returns-clause-own g c = own_grown c.args.self.now.place.me.0 c.submit.new.self.place.me.0 _ c.submit.ensures.made.1

pub returns-clause-legal : goal.returns-clause-legal
returns-clause-legal g c = extends_legal c.args.self.now.place.me.0 c.submit.new.self.place.me.0 _ c.submit.ensures.made.1
