use Rattle.std.proofs.Common.{rules}
use Rattle.board_lock.proofs.Keeps.{draws}
use Rattle.board_lock.proofs.lock.Lock.draw.Goals as goal

pub fetch_add-requires : goal.fetch_add-requires
fetch_add-requires c = (search rules, search rules, draws _ _ _ _ c.requires.outside.0 c.requires.working)
