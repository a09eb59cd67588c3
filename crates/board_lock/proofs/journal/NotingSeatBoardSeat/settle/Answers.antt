use Rattle.std.proofs.Common.{◌≡◌, ℕ, ◌-◌, ◌%◌, ◌^◌, [], ◌∷◌, ◌++◌, length, sym, ap, ◌∙◌, subst}
use Rattle.std.specs.Prelude.{Option, Some}
use Rattle.attempt_log.specs.declared.seat.Task.{Task}
use Rattle.attempt_log.specs.Entries.{settle_entry}
use Rattle.attempt_log.specs.declared.entry.Entry.{Entry}
use Rattle.board_core.specs.Board.{Opening, setting_of}
use Rattle.board_lock.specs.Histories.{IsCycle}
use Rattle.board_lock.specs.inner.Receipts.{receipts}
use Rattle.board_lock.specs.inner.Rooms.{FitsTask}
use Rattle.board_lock.specs.declared.view.View.{View}
use Rattle.board_lock.proofs.Noting.{note_more}
use Rattle.board_lock.proofs.Endings.{own_grown, sees_last}
use Rattle.board_lock.proofs.Ranges.{grown_in, settle_in}
use Rattle.board_lock.proofs.journal.NotingSeatBoardSeat.settle.Goals as goal

pub invariant_of-self : goal.invariant_of-self
invariant_of-self g c =
    let s = c.args.self.now in
    let seat = s.seat in
    let call = c.settle-answer.ensures in
    let old : View = seat.place.me.0 in
    let new : View = c.settle-answer.new.self.place.me.0 in
    let e : Entry = settle_entry seat.number c.settle-answer.result.0 in
    let extends = call.made.1 in
    let more : receipts old.part.worker new.seen ≡ receipts old.part.worker old.seen ++ record { place = (length new.seen - 1) % 2 ^ 64; entry = e } ∷ [] =
    note_more old new e seat.mine extends (sym seat.numbered) in
    let number : old.part.worker ≡ c.settle-answer.new.self.number = seat.numbered ∙ sym call.number in
    record {
      noted = λ yes.
          let t = c.note_settle-self.ensures.noted yes in
          t.1
          ∙ ((λ i. (s.noted t.0 ∙ ap (λ (n : ℕ). receipts n old.seen) (sym seat.numbered)) i ++ record { place = call.place i; entry = settle_entry (call.worker i) c.settle-answer.result.0 } ∷ [])
          ∙ (sym more ∙ ap (λ (n : ℕ). receipts n new.seen) number));
      tasked = subst (λ (z : Opening × Option Task). (t : Task) → z.1 ≡ Some t → IsCycle z.0 t.cycle) (λ i. (sym extends.4 i, sym call.task i)) s.tasked;
      roomy = subst (λ (z : Opening × Option Task). FitsTask (setting_of z.0) z.1 s.room) (λ i. (sym extends.4 i, sym call.task i)) s.roomy;
      in_run = grown_in old.opened new.opened old.part new.part e extends.4 extends.3 s.in_run (settle_in old.opened seat.number c.settle-answer.result.0);
    }

pub returns-clause-seen : goal.returns-clause-seen
returns-clause-seen g c = sees_last c.args.self.now.seat.place.me.0 c.settle-answer.new.self.place.me.0 _ c.settle-answer.ensures.made.1

pub returns-clause-own : goal.returns-clause-own
returns-clause-own g c = own_grown c.args.self.now.seat.place.me.0 c.settle-answer.new.self.place.me.0 _ c.settle-answer.ensures.made.1
