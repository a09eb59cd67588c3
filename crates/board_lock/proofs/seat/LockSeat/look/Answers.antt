use Rattle.std.proofs.Common.{rules, ap, sym, subst, ◌∙◌}
use Rattle.std.specs.Prelude.{IfOk}
use Rattle.attempt_log.specs.Seats.{IfJob}
use Rattle.attempt_log.specs.Setting.{IsFor, attempt_of}
use Rattle.board_core.specs.Board.{Opening, setting_of}
use Rattle.board_core.specs.Kept.{Kept}
use Rattle.board_core.specs.History.{IsLegal}
use Rattle.board_lock.specs.Plays.{HoldsBoard, IsWorker, Mine}
use Rattle.board_lock.specs.declared.view.Part.{Part}
use Rattle.board_lock.proofs.Calls.{asked, can_put_back}
use Rattle.board_lock.proofs.Endings.{chosen, stays_seen}
use Rattle.board_lock.proofs.Since.{since_more}
use Rattle.board_lock.proofs.seat.LockSeat.look.Goals as goal

pub leave_seen-requires-clause-can : goal.leave_seen-requires-clause-can
leave_seen-requires-clause-can g c = can_put_back c.args.self.now.place.me c.enter-board.new.place.me c.enter-board.result.value c.enter-board.ensures.holds

pub returns-clause-legal : goal.returns-clause-legal
returns-clause-legal g c =
    let m = c.args.self.now.place.me in
    let n = c.enter-board.new.place.me in
    let h = subst (λ (k : Kept). HoldsBoard m k n) (sym c.deref.ensures) c.enter-board.ensures.holds in
    let q = c.leave_seen.new.place.me in
    let done = asked m n q c.deref.result.now h c.leave_seen.ensures.gave in
    subst (λ (x : Opening). IsLegal x q.0.seen) (sym done.5) done.2

pub invariant_of-self : goal.invariant_of-self
invariant_of-self g c =
    let s = c.args.self.now in
    let m = s.place.me in
    let n = c.enter-board.new.place.me in
    let h = subst (λ (k : Kept). HoldsBoard m k n) (sym c.deref.ensures) c.enter-board.ensures.holds in
    let q = c.leave_seen.new.place.me in
    let done = asked m n q c.deref.result.now h c.leave_seen.ensures.gave in
    record {
      same = search rules;
      outside = done.0;
      numbered = ap (λ (x : Part). x.worker) done.4 ∙ s.numbered;
      working = subst IsWorker (sym done.4) s.working;
      mine = subst (λ (x : Part). Mine x q.0.seen) (sym done.4) (done.6 s.working.0);
      since = since_more s.place.me.0.part q.0.part s.place.me.0.seen q.0.seen s.since done.1 (ap (λ (x : Part). x.base) done.4) (subst (λ (x : Part). Mine x q.0.seen) (sym done.4) (done.6 s.working.0));
      finished = λ some. stays_seen s.place.me.0 q.0 done.1 done.5 (s.finished some);
    }

pub returns-clause-answer : goal.returns-clause-answer
returns-clause-answer g c =
    let m = c.args.self.now.place.me in
    let n = c.enter-board.new.place.me in
    let h = subst (λ (k : Kept). HoldsBoard m k n) (sym c.deref.ensures) c.enter-board.ensures.holds in
    let q = c.leave_seen.new.place.me in
    let done = asked m n q c.deref.result.now h c.leave_seen.ensures.gave in
    chosen m q c.deref.result.now c.args.pick c.job-answer.result done c.job-answer.ensures.chooses

pub returns-clause-is_for : goal.returns-clause-is_for
returns-clause-is_for g c =
    let m = c.args.self.now.place.me in
    let n = c.enter-board.new.place.me in
    let h = subst (λ (k : Kept). HoldsBoard m k n) (sym c.deref.ensures) c.enter-board.ensures.holds in
    subst (λ (x : Opening). IfOk c.job-answer.result (λ told. IfJob told (λ job. IsFor (setting_of x) (attempt_of job)))) h.1.opening c.job-answer.ensures.is_for
