use denote.Param.Send.{sendable}
use Rattle.std.proofs.Crossing.{crosses}
use Rattle.std.specs.Prelude.{slice_index_or}
use Rattle.spec_worker.specs.declared.Working.{Working}
use Rattle.board_lock.proofs.Crossing.{noting_send}
use Rattle.board_lock.specs.declared.journal.NotingSeat.{NotingSeat}
use Rattle.std.proofs.Common.{rules, arith, ◌≡◌, ℕ, List, Result, Ok, Err, OnErr, length, sym, ap, subst, ◌∙◌, inr}
use Rattle.std.proofs.lemmas.Grind.{common_steps}
use Rattle.attempt_log.specs.declared.report.Report.{Report}
use Rattle.board_lock.specs.declared.notes.Note.{Note}
use Rattle.board_lock.specs.Plays.{KnowsAll}
use Rattle.board_lock.specs.Work.{Worked}
use Rattle.board_lock.specs.inner.Receipts.{Noting}
use Rattle.board_lock.specs.declared.view.View.{View}
use Rattle.board_lock.proofs.Works.{told_run, worked}
use Rattle.std.specs.Prelude.{◌<◌}
use Rattle.attempt_log.specs.Entries.{worker_of}
use Rattle.attempt_log.specs.declared.entry.Entry.{Entry}
use Rattle.board_core.specs.Board.{Opening}
use Rattle.board_lock.specs.Histories.{Each, InRun}
use Rattle.board_lock.proofs.Noting.{journaled, told_below}
use Rattle.board_lock.proofs.board.LockBoard.journal_all.Goals as goal

on_err : {T E P : Type 0} (r : Result T E) → P → OnErr r P
on_err (Ok x) p = tt
on_err (Err e) p = p

pub returns-then-not-whole-clause-kept : goal.returns-then-not-whole-clause-kept
returns-then-not-whole-clause-kept g c =
    let reports : List Report = c.join_noting-whole.new.reports.items in
    let told : Worked c.args.turns c.args.self.now.workers c.args.self.now.place.me.0 c.learn.new.place.me.0 reports =
    told_run c.args.turns c.args.self.now.workers _ c.args.self.now.place.me.0 c.split_noting.new.place.me.0 c.join_noting-whole.new.place.me.0 c.learn.new.place.me.0 reports
    c.join_noting-whole.ensures.joined c.join_noting-whole.ensures.count (grind (arith, common_steps)) c.args.self.now.some c.in_ok-seats.ensures.split (λ i. (c.learn.ensures.kept i).0) c.learn.ensures.settled in
    inr (reports, told)

pub returns-in_err-entries-clause-kept : goal.returns-in_err-entries-clause-kept
returns-in_err-entries-clause-kept g c =
    let reports : List Report = c.join_noting-whole.new.reports.items in
    let told : Worked c.args.turns c.args.self.now.workers c.args.self.now.place.me.0 c.learn.new.place.me.0 reports =
    told_run c.args.turns c.args.self.now.workers _ c.args.self.now.place.me.0 c.split_noting.new.place.me.0 c.join_noting-whole.new.place.me.0 c.learn.new.place.me.0 reports
    c.join_noting-whole.ensures.joined c.join_noting-whole.ensures.count (grind (arith, common_steps)) c.args.self.now.some c.in_ok-seats.ensures.split (λ i. (c.learn.ensures.kept i).0) c.learn.ensures.settled in
    on_err c.from_residual-in_err-entries.result (inr (reports, told))

pub returns-clause-told : goal.returns-clause-told
returns-clause-told g c =
    subst (λ (l : List Report). Worked c.args.turns c.args.self.now.workers c.args.self.now.place.me.0 c.learn.new.place.me.0 l) (sym c.from_vec-reports.ensures)
    (told_run c.args.turns c.args.self.now.workers _ c.args.self.now.place.me.0 c.split_noting.new.place.me.0 c.join_noting-whole.new.place.me.0 c.learn.new.place.me.0 c.join_noting-whole.new.reports.items
    c.join_noting-whole.ensures.joined c.join_noting-whole.ensures.count (grind (arith, common_steps)) c.args.self.now.some c.in_ok-seats.ensures.split (λ i. (c.learn.ensures.kept i).0) c.learn.ensures.settled)

pub returns-clause-entries : goal.returns-clause-entries
returns-clause-entries g c =
    let K : ℕ = c.args.self.now.workers in
    let v : View = c.args.self.now.place.me.0 in
    let mid : View = c.join_noting-whole.new.place.me.0 in
    let w : View = c.learn.new.place.me.0 in
    let lists : List (List Note) = c.join_noting-whole.new.lists.items in
    let reports : List Report = c.from_vec-reports.result in
    let kept : w ≡ mid = λ i. (c.learn.ensures.kept i).0 in
    let told : Worked c.args.turns K v w reports = returns-clause-told g c in
    let j = c.join_noting-whole.ensures.joined in
    let settled : KnowsAll w = subst KnowsAll (sym kept) (c.learn.ensures.settled j.own j.out) in
    let long : length lists ≡ K = c.join_noting-whole.ensures.lists_count ∙ (sym c.join_noting-whole.ensures.count ∙ (ap (λ (l : List Report). length l) (sym c.from_vec-reports.ensures) ∙ told.1)) in
    let noting : Noting v.opened 0 lists w.part.dones = subst (λ (z : Opening × View). Noting z.0 0 lists z.1.part.dones) (λ i. (c.in_ok-seats.ensures.split.opened i, sym kept i)) (c.if-not-whole.ensures.noting (search rules)) in
    let notes = journaled v.opened c.args.turns K v w reports lists c.requires.empty settled told.0 long told.1 c.requires.few c.args.self.now.few noting in
    c.in_ok-entries.ensures w.seen notes.1 notes.0

pub returns-clause-workers : goal.returns-clause-workers
returns-clause-workers g c =
    let w : View = c.learn.new.place.me.0 in
    let told = (returns-clause-told g c).0 in
    subst (λ (l : List Entry). Each (λ (e : Entry). worker_of e < c.args.self.now.workers) l) (sym (returns-clause-entries g c)) (told_below c.args.turns c.args.self.now.workers c.args.self.now.place.me.0 w c.from_vec-reports.result c.requires.empty told)

pub returns-clause-in_run : goal.returns-clause-in_run
returns-clause-in_run g c =
    let K : ℕ = c.args.self.now.workers in
    let v : View = c.args.self.now.place.me.0 in
    let mid : View = c.join_noting-whole.new.place.me.0 in
    let w : View = c.learn.new.place.me.0 in
    let lists : List (List Note) = c.join_noting-whole.new.lists.items in
    let reports : List Report = c.from_vec-reports.result in
    let kept : w ≡ mid = λ i. (c.learn.ensures.kept i).0 in
    let told : Worked c.args.turns K v w reports = returns-clause-told g c in
    let j = c.join_noting-whole.ensures.joined in
    let settled : KnowsAll w = subst KnowsAll (sym kept) (c.learn.ensures.settled j.own j.out) in
    let long : length lists ≡ K = c.join_noting-whole.ensures.lists_count ∙ (sym c.join_noting-whole.ensures.count ∙ (ap (λ (l : List Report). length l) (sym c.from_vec-reports.ensures) ∙ told.1)) in
    let noting : Noting v.opened 0 lists w.part.dones = subst (λ (z : Opening × View). Noting z.0 0 lists z.1.part.dones) (λ i. (c.in_ok-seats.ensures.split.opened i, sym kept i)) (c.if-not-whole.ensures.noting (search rules)) in
    let notes = journaled v.opened c.args.turns K v w reports lists c.requires.empty settled told.0 long told.1 c.requires.few c.args.self.now.few noting in
    subst (λ (l : List Entry). Each (InRun v.opened) l) (sym (returns-clause-entries g c)) notes.2

pub work_seats-requires-send-S : goal.work_seats-requires-send-S
work_seats-requires-send-S g c κs = search (noting_send, sendable, crosses) depth 40 fits 8000

pub join_noting-whole-requires-clause-each : goal.join_noting-whole-requires-clause-each
join_noting-whole-requires-clause-each g c i d within =
    let W : Type 0 = Working (NotingSeat g.row.R.Denot) in
    let v : View = c.args.self.now.place.me.0 in
    let old : W = slice_index_or c.in_ok-seats.seats.items i d in
    let new : W = slice_index_or c.work_seats.new.seats.items i d in
    let few : i < length c.in_ok-seats.seats.items = omega (arith, within, c.work_seats.ensures.count) in
    let w = c.work_seats.ensures.each i d few in
    let ready = c.in_ok-seats.ensures.each i d (omega (arith, few, c.in_ok-seats.ensures.count)) in
    worked c.args.turns c.args.self.now.workers v c.split_noting.new.place.me.0 c.args.self.now.place.table_id c.split_noting.new.place.table_id i old.seat.seat.number new.seat.seat.number _ _ _ _ _ old.seat.seat.place.table_id new.seat.seat.place.table_id old.seat.seat.place.me.0 new.seat.seat.place.me.0 new.report
    c.in_ok-seats.ensures.split c.args.self.now.some c.split_noting.ensures.same ready w.numbered w.from w.worker w.gains w.ends
