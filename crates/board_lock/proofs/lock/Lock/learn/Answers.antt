use Rattle.std.proofs.Common.{rules}
use Rattle.board_lock.proofs.Seats.{learns}
use Rattle.board_lock.proofs.lock.Lock.learn.Goals as goal

pub load-requires : goal.load-requires
load-requires c = (search rules, search rules, learns _ _ _ _)
