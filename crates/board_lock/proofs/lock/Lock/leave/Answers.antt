use Rattle.std.proofs.Common.{rules, sym, subst}
use Rattle.board_lock.specs.Histories.{Leaves}
use Rattle.board_lock.proofs.Keeps.{serves_next}
use Rattle.board_lock.proofs.lock.Lock.leave.Goals as goal

pub fetch_add-requires : goal.fetch_add-requires
fetch_add-requires c = let can = c.requires.can in (search rules, search rules, serves_next _ _ _ _ _ _ _ _ _ c.exchange-empty.ensures.3 can.2 (subst (Leaves c.args.place.now.me.0.opened can.1) (sym c.new.ensures) can.3))
