use denote.Param.Send.{sendable}
use Rattle.std.proofs.Crossing.{crosses}
use Rattle.std.proofs.Common.{◌<◌, length}
use Rattle.std.specs.Prelude.{slice_index_or}
use Rattle.spec_worker.specs.declared.Working.{Working}
use Rattle.board_lock.specs.declared.view.View.{View}
use Rattle.board_lock.proofs.Crossing.{seat_send}
use Rattle.board_lock.specs.declared.seat.LockSeat.{LockSeat}
use Rattle.std.proofs.Common.{arith}
use Rattle.std.proofs.lemmas.Grind.{common_steps}
use Rattle.board_lock.proofs.Works.{told_run, worked}
use Rattle.board_lock.proofs.board.LockBoard.run.Goals as goal

pub returns-clause-told : goal.returns-clause-told
returns-clause-told g c =
    told_run c.args.turns c.args.self.now.workers _ c.args.self.now.place.me.0 c.split_all.new.place.me.0 c.join_all.new.place.me.0 c.learn.new.place.me.0 c.join_all.new.reports.items
    c.join_all.ensures.joined c.join_all.ensures.count (grind (arith, common_steps)) c.args.self.now.some c.in_ok-seats.ensures.split (λ i. (c.learn.ensures.kept i).0) c.learn.ensures.settled

pub work_seats-requires-send-S : goal.work_seats-requires-send-S
work_seats-requires-send-S g c κs = search (seat_send, sendable, crosses) depth 40 fits 8000

pub join_all-requires-clause-each : goal.join_all-requires-clause-each
join_all-requires-clause-each g c i d within =
    let W : Type 0 = Working (LockSeat g.row.R.Denot) in
    let v : View = c.args.self.now.place.me.0 in
    let old : W = slice_index_or c.in_ok-seats.seats.items i d in
    let new : W = slice_index_or c.work_seats.new.seats.items i d in
    let few : i < length c.in_ok-seats.seats.items = omega (arith, within, c.work_seats.ensures.count) in
    let w = c.work_seats.ensures.each i d few in
    let ready = c.in_ok-seats.ensures.each i d (omega (arith, few, c.in_ok-seats.ensures.count)) in
    worked c.args.turns c.args.self.now.workers v c.split_all.new.place.me.0 c.args.self.now.place.table_id c.split_all.new.place.table_id i old.seat.number new.seat.number _ _ _ _ _ old.seat.place.table_id new.seat.place.table_id old.seat.place.me.0 new.seat.place.me.0 new.report
    c.in_ok-seats.ensures.split c.args.self.now.some c.split_all.ensures.same ready w.numbered w.from w.worker w.gains w.ends
