use Rattle.std.proofs.Common.{rules}
use Rattle.board_lock.proofs.Seats.{joins}
use Rattle.board_lock.proofs.lock.Lock.join.Goals as goal

pub join_seat-requires : goal.join_seat-requires
join_seat-requires g c = (search rules, search rules, search rules, search rules, joins _ _ _ _ _ _ c.requires.can c.requires.begun)
