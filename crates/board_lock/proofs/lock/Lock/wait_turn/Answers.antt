use Rattle.std.proofs.Common.{rules, ap, subst, ◌∙◌}
use mathlib.Core.Option.{none}
use Rattle.atomic_table.specs.Table.{step}
use Rattle.board_lock.specs.Plays.{looked}
use Rattle.board_lock.proofs.Keeps.{looks}
use Rattle.board_lock.proofs.Calls.{Sat}
use Rattle.board_lock.proofs.Turns.{served}
use Rattle.board_lock.proofs.lock.Lock.wait_turn.Goals as goal

pub load-serving-requires : goal.load-serving-requires
load-serving-requires g c = let w = c.requires.waits in
    (search rules, search rules, looks _ _ _ _ w.0 (ap (λ m. m.0.stage) (c.loop.invariant.2 ∙ w.2)))

pub returns-then-serving-ticket-clause-served : goal.returns-then-serving-ticket-clause-served
returns-then-serving-ticket-clause-served g c =
    served c.args.place.now.me c.load-serving.new.seat.me c.args.ticket c.load-serving.result c.requires.waits
    (subst (λ (x : Sat). looked (step 1 1 0 0 none) x c.load-serving.result c.load-serving.new.seat.me) c.loop.invariant.2 c.load-serving.ensures.2) c.if-serving-ticket.true
