use Rattle.std.proofs.Common.{rules}
use Rattle.board_lock.proofs.Keeps.{adds}
use Rattle.board_lock.proofs.lock.Lock.add_settle.Goals as goal

pub fetch_add-requires : goal.fetch_add-requires
fetch_add-requires g c = let can = c.requires.can in (search rules, search rules, adds _ _ _ _ _ _ _ can.2 can.3 can.4 can.5)
