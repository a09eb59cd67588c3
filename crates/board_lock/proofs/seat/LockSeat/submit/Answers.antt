use Rattle.std.proofs.Common.{rules, ap, sym, subst, ◌∙◌}
use Rattle.attempt_log.specs.declared.entry.Entry.{Entry}
use Rattle.board_core.specs.Board.{Opening, setting_of}
use Rattle.board_core.specs.Kept.{Kept}
use Rattle.attempt_log.specs.Setting.{IsFor}
use Rattle.attempt_log.specs.Entries.{submit_entry}
use Rattle.board_lock.specs.Plays.{HoldsBoard, Made, IsWorker}
use Rattle.board_lock.specs.declared.view.Part.{Part}
use Rattle.board_lock.proofs.Calls.{can_add, can_give, made, receipt, worker_kept}
use Rattle.board_lock.proofs.Endings.{extends_begins, extends_since, stays_seen}
use Rattle.board_lock.proofs.Histories.{took_submit}
use Rattle.board_lock.proofs.seat.LockSeat.submit.Goals as goal

pub submit-answer-requires : goal.submit-answer-requires
submit-answer-requires g c =
    let m = c.args.self.now.place.me in
    let n = c.enter-board.new.place.me in
    let h = subst (λ (k : Kept). HoldsBoard m k n) (sym c.deref_mut.ensures.value) c.enter-board.ensures.holds in
    subst (λ (x : Opening). IsFor (setting_of x) c.args.attempt) (sym h.1.opening) c.requires

pub add-place-requires-clause-can : goal.add-place-requires-clause-can
add-place-requires-clause-can g c =
    let m = c.args.self.now.place.me in
    let n = c.enter-board.new.place.me in
    let h = subst (λ (k : Kept). HoldsBoard m k n) (sym c.deref_mut.ensures.value) c.enter-board.ensures.holds in
    let t = took_submit m.0.opened h.0 c.deref_mut.result.now c.submit-answer.new.self n.0.part.worker c.args.attempt c.of-said.result.value c.submit-answer.result h.1 h.2.2 c.recall.ensures c.requires c.submit-answer.ensures.step c.submit-answer.ensures.opening c.of-said.ensures in
    can_add m n c.deref_mut.result.now _ h t.0 c.args.self.now.working (worker_kept m n c.deref_mut.result.now h)

pub leave-requires-clause-can : goal.leave-requires-clause-can
leave-requires-clause-can g c =
    let m = c.args.self.now.place.me in
    let n = c.enter-board.new.place.me in
    let h = subst (λ (k : Kept). HoldsBoard m k n) (sym c.deref_mut.ensures.value) c.enter-board.ensures.holds in
    let t = took_submit m.0.opened h.0 c.deref_mut.result.now c.submit-answer.new.self n.0.part.worker c.args.attempt c.of-said.result.value c.submit-answer.result h.1 h.2.2 c.recall.ensures c.requires c.submit-answer.ensures.step c.submit-answer.ensures.opening c.of-said.ensures in
    can_give m n c.add-place.new.place.me c.deref_mut.result.now c.add-place.result c.submit-answer.new.self _ h c.add-place.ensures.added t.1

pub returns-clause-made : goal.returns-clause-made
returns-clause-made g c =
    let m = c.args.self.now.place.me in
    let n = c.enter-board.new.place.me in
    let h = subst (λ (k : Kept). HoldsBoard m k n) (sym c.deref_mut.ensures.value) c.enter-board.ensures.holds in
    let t = took_submit m.0.opened h.0 c.deref_mut.result.now c.submit-answer.new.self n.0.part.worker c.args.attempt c.of-said.result.value c.submit-answer.result h.1 h.2.2 c.recall.ensures c.requires c.submit-answer.ensures.step c.submit-answer.ensures.opening c.of-said.ensures in
    let of = worker_kept m n c.deref_mut.result.now h in
    let q = c.leave.new.place.me in
    subst (λ (e : Entry). Made m e q) (λ i. submit_entry ((of ∙ c.args.self.now.numbered) i) (c.of-said.ensures i) c.submit-answer.result)
    (made m n c.add-place.new.place.me q c.deref_mut.result.now c.add-place.result _ h t.0 c.add-place.ensures.added c.leave.ensures.gave c.args.self.now.working.0 of)

pub returns-clause-place : goal.returns-clause-place
returns-clause-place g c =
    let m = c.args.self.now.place.me in
    let n = c.enter-board.new.place.me in
    let h = subst (λ (k : Kept). HoldsBoard m k n) (sym c.deref_mut.ensures.value) c.enter-board.ensures.holds in
    receipt m n c.add-place.new.place.me c.leave.new.place.me c.deref_mut.result.now c.add-place.result _ h c.add-place.ensures.added c.leave.ensures.gave

pub invariant_of-self : goal.invariant_of-self
invariant_of-self g c =
    let m = c.args.self.now.place.me in
    let n = c.enter-board.new.place.me in
    let h = subst (λ (k : Kept). HoldsBoard m k n) (sym c.deref_mut.ensures.value) c.enter-board.ensures.holds in
    let t = took_submit m.0.opened h.0 c.deref_mut.result.now c.submit-answer.new.self n.0.part.worker c.args.attempt c.of-said.result.value c.submit-answer.result h.1 h.2.2 c.recall.ensures c.requires c.submit-answer.ensures.step c.submit-answer.ensures.opening c.of-said.ensures in
    let of = worker_kept m n c.deref_mut.result.now h in
    let q = c.leave.new.place.me in
    let done = made m n c.add-place.new.place.me q c.deref_mut.result.now c.add-place.result _ h t.0 c.add-place.ensures.added c.leave.ensures.gave c.args.self.now.working.0 of in
    record { same = search rules; outside = done.0; numbered = ap (λ (x : Part). x.worker) done.1.3 ∙ c.args.self.now.numbered; working = subst IsWorker (sym done.1.3) c.args.self.now.working; mine = done.1.5; since = extends_since m.0 q.0 _ done.1 c.args.self.now.since; finished = λ pos. stays_seen m.0 q.0 (extends_begins m.0 q.0 _ done.1) done.1.4 (c.args.self.now.finished pos) }
