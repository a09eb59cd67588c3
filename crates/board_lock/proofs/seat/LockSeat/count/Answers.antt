use Rattle.board_lock.specs.Histories.{IsPast}
use Rattle.board_lock.proofs.Endings.{ended_told}
use Rattle.board_lock.proofs.seat.LockSeat.count.Goals as goal

pub invariant_of-self : goal.invariant_of-self
invariant_of-self g c =
    let s = c.args.self.now in
    record {
      same = s.same;
      outside = s.outside;
      numbered = s.numbered;
      working = s.working;
      mine = s.mine;
      since = s.since;
      finished = ended_told c.args.answer.now (IsPast s.place.me.0.opened s.place.me.0.seen) _ _ s.finished c.requires c.count.ensures.ended c.count.ensures.none_ended;
    }
