use Rattle.std.proofs.Common.{◌≡◌, false, ◌≤◌}
use Rattle.kw_bits.specs.Faults.{last_count}
use Rattle.spec_worker.specs.Work.{Gains, RoseBy}
use Rattle.spec_worker.proofs.work.Given as goal

abbrev pub invariant-loop-turn : goal.invariant-loop-turn
invariant-loop-turn g l =
    record {
      number : g.S.BoardSeat.number l.seat ≡ g.S.BoardSeat.number l.initial.seat;
      origin : g.S.BoardSeat.origin l.seat ≡ g.S.BoardSeat.origin l.initial.seat;
      setting : g.S.BoardSeat.setting l.seat ≡ g.S.BoardSeat.setting l.initial.seat;
      few : l.submitted ≤ l.turn;
      few_settled : l.settled ≤ l.turn;
      own : Gains (g.S.BoardSeat.own l.initial.seat) (g.S.BoardSeat.given l.initial.seat) l.submitted l.settled l.turn (g.S.BoardSeat.own l.seat) (g.S.BoardSeat.given l.seat) false;
      ended : g.S.BoardSeat.ended l.initial.seat ≤ g.S.BoardSeat.ended l.seat;
      counted : g.S.BoardSeat.ended l.seat ≤ last_count;
      asked : RoseBy (g.S.BoardSeat.asked l.initial.seat) l.turn (g.S.BoardSeat.asked l.seat);
    }
