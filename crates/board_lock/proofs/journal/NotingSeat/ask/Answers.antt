use Rattle.std.proofs.Common.{◌≡◌, ℕ, sym, ap, ◌∙◌, subst}
use Rattle.std.specs.Prelude.{IfOk, Option, Some}
use Rattle.attempt_log.specs.declared.seat.Task.{Task}
use Rattle.board_core.specs.Board.{Opening, setting_of}
use Rattle.board_core.specs.Candidates.{Chooses}
use Rattle.board_core.specs.History.{board_after}
use Rattle.board_lock.specs.Histories.{Each, InRun, IsCycle}
use Rattle.board_lock.specs.inner.Receipts.{receipts}
use Rattle.board_lock.specs.inner.Rooms.{FitsTask}
use Rattle.board_lock.specs.declared.view.Part.{Part}
use Rattle.board_lock.specs.declared.view.View.{View}
use Rattle.board_lock.proofs.Endings.{past_told}
use Rattle.board_lock.proofs.Noting.{notes_kept}
use Rattle.board_lock.proofs.Ranges.{task_in}
use Rattle.board_lock.proofs.Rooms.{room_next, still}
use Rattle.board_lock.proofs.journal.NotingSeat.ask.Goals as goal

pub count-requires : goal.count-requires
count-requires g c =
    let v : View = c.look-answer.new.self.place.me.0 in
    let r = c.with_room-answer.result.0 in
    past_told r v.opened v.seen c.args.pick (still (Chooses v.opened (board_after v.opened v.seen) c.args.pick) c.look-answer.result r c.with_room-answer.ensures.same c.look-answer.ensures.answer)

pub invariant_of-self-2 : goal.invariant_of-self-2
invariant_of-self-2 g c =
    let s = c.args.self.now in
    let seat = s.seat in
    let looked = c.look-answer.new.self in
    let after = c.count.new.self in
    let look = c.look-answer.ensures in
    let old : View = seat.place.me.0 in
    let new : View = looked.place.me.0 in
    let r = c.with_room-answer.result.0 in
    let place = c.count.ensures.place in
    let opened : after.place.me.0.opened ≡ new.opened = ap (λ p. p.me.0.opened) place in
    let number : after.number ≡ seat.number = c.count.ensures.number ∙ look.number in
    let kept : receipts seat.number new.seen ≡ receipts seat.number old.seen = ap (λ (n : ℕ). receipts n new.seen) (sym seat.numbered) ∙ (notes_kept old new look.prefix look.part seat.mine looked.mine ∙ ap (λ (n : ℕ). receipts n old.seen) seat.numbered) in
    let choice : IfOk r (Chooses new.opened (board_after new.opened new.seen) c.args.pick) = still (Chooses new.opened (board_after new.opened new.seen) c.args.pick) c.look-answer.result r c.with_room-answer.ensures.same look.answer in
    record {
      noted = λ yes. c.reserve.ensures.items ∙ (s.noted yes ∙ (sym kept ∙ (λ i. receipts (sym number i) (sym place i).me.0.seen)));
      tasked = subst (λ (o : Opening). (t : Task) → after.counts.task ≡ Some t → IsCycle o t.cycle) (sym opened)
          (task_in new.opened new.seen c.args.pick r looked.counts.task after.counts.task (subst (λ (z : Opening × Option Task). (t : Task) → z.1 ≡ Some t → IsCycle z.0 t.cycle) (λ i. (sym look.opened i, sym (ap (λ k. k.task) look.kept) i)) s.tasked) choice c.count.ensures.task c.count.ensures.same_task);
      in_run = subst (λ (z : Opening × Part). Each (InRun z.0) z.1.own) (λ i. (sym (opened ∙ look.opened) i, sym (ap (λ p. p.me.0.part) place ∙ look.part) i)) s.in_run;
      roomy = subst (λ (o : Opening). FitsTask (setting_of o) after.counts.task c.with_room-answer.result.1) (sym opened)
          (room_next new.opened (board_after new.opened new.seen) c.args.pick r c.with_room-answer.result.1 looked.counts.task after.counts.task c.with_room-answer.ensures.room choice c.count.ensures.task);
    }

pub returns-clause-answer : goal.returns-clause-answer
returns-clause-answer g c =
    let v : View = c.look-answer.new.self.place.me.0 in
    let r = c.with_room-answer.result.0 in
    subst (λ (w : View). IfOk r (Chooses w.opened (board_after w.opened w.seen) c.args.pick)) (sym (ap (λ p. p.me.0) c.count.ensures.place))
    (still (Chooses v.opened (board_after v.opened v.seen) c.args.pick) c.look-answer.result r c.with_room-answer.ensures.same c.look-answer.ensures.answer)

pub invariant_of-self : goal.invariant_of-self
invariant_of-self g c =
    let s = c.args.self.now in
    let seat = s.seat in
    let place = c.count_none.ensures.place in
    let view = ap (λ p. p.me.0) place in
    record {
      noted = λ yes. c.reserve.ensures.items ∙ (s.noted yes ∙ (λ i. receipts (sym c.count_none.ensures.number i) (sym view i).seen));
      tasked = subst (λ (z : View × Option Task). (t : Task) → z.1 ≡ Some t → IsCycle z.0.opened t.cycle) (λ i. (sym view i, sym c.count_none.ensures.task i)) s.tasked;
      in_run = subst (λ (v : View). Each (InRun v.opened) v.part.own) (sym view) s.in_run;
      roomy = subst (λ (z : View × Option Task). FitsTask (setting_of z.0.opened) z.1 s.room) (λ i. (sym view i, sym c.count_none.ensures.task i)) s.roomy;
    }
