use Rattle.std.proofs.Common.{rules, sym, subst}
use Rattle.board_lock.specs.Histories.{Leaves}
use Rattle.board_lock.proofs.Keeps.{sees_next}
use Rattle.board_lock.proofs.lock.Lock.leave_seen.Goals as goal

pub fetch_add-requires : goal.fetch_add-requires
fetch_add-requires c = let can = c.requires.can in (search rules, search rules, sees_next _ _ _ _ _ _ _ _ _ c.exchange.ensures.3 can.2 (subst (Leaves c.args.place.now.me.0.opened can.1) (sym c.new.ensures) can.3))
