use Rattle.std.proofs.Common.{rules}
use Rattle.board_lock.proofs.Seats.{splits}
use Rattle.board_lock.proofs.lock.Lock.split.Goals as goal

pub split_seat-requires : goal.split_seat-requires
split_seat-requires c = (search rules, search rules, splits _ _ _ c.requires.can)
