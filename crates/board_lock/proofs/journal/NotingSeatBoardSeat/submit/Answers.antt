use Rattle.std.proofs.Common.{◌≡◌, ℕ, ◌-◌, ◌%◌, ◌^◌, List, [], ◌∷◌, ◌++◌, length, sym, ap, ◌∙◌, subst}
use Rattle.std.specs.Prelude.{Option, Some}
use Rattle.attempt_log.specs.declared.seat.Task.{Task}
use Rattle.attempt_log.specs.Entries.{submit_entry}
use Rattle.attempt_log.specs.Setting.{task_of}
use Rattle.kw_bits.specs.BitVector.{BitVector}
use Rattle.board_lock.specs.inner.Rooms.{IsRoom}
use Rattle.attempt_log.specs.declared.entry.Entry.{Entry}
use Rattle.board_core.specs.Board.{Opening, setting_of}
use Rattle.board_lock.specs.Histories.{IsCycle}
use Rattle.board_lock.specs.inner.Receipts.{receipts}
use Rattle.board_lock.specs.declared.view.View.{View}
use Rattle.board_lock.proofs.Noting.{note_more}
use Rattle.board_lock.proofs.Endings.{own_grown, sees_last}
use Rattle.board_lock.proofs.Ranges.{grown_in, submit_in}
use Rattle.board_lock.proofs.Rooms.{none_some}
use Rattle.board_lock.proofs.journal.NotingSeatBoardSeat.submit.Goals as goal

pub invariant_of-self : goal.invariant_of-self
invariant_of-self g c =
    let s = c.args.self.now in
    let seat = s.seat in
    let call = c.submit-answer.ensures in
    let old : View = seat.place.me.0 in
    let new : View = c.submit-answer.new.self.place.me.0 in
    let e : Entry = submit_entry seat.number c.args.attempt c.submit-answer.result.0 in
    let extends = call.made.1 in
    let more : receipts old.part.worker new.seen ≡ receipts old.part.worker old.seen ++ record { place = (length new.seen - 1) % 2 ^ 64; entry = e } ∷ [] =
    note_more old new e seat.mine extends (sym seat.numbered) in
    let number : old.part.worker ≡ c.submit-answer.new.self.number = seat.numbered ∙ sym call.number in
    record {
      noted = λ yes.
          let t = c.note_submit-self.ensures.noted c.args.attempt c.copied-copy.ensures.copy yes in
          t.1
          ∙ ((λ i. (s.noted t.0 ∙ ap (λ (n : ℕ). receipts n old.seen) (sym seat.numbered)) i ++ record { place = call.place i; entry = submit_entry (call.worker i) c.args.attempt c.submit-answer.result.0 } ∷ [])
          ∙ (sym more ∙ ap (λ (n : ℕ). receipts n new.seen) number));
      tasked = subst (λ (z : Opening × Option Task). (t : Task) → z.1 ≡ Some t → IsCycle z.0 t.cycle) (λ i. (sym extends.4 i, sym (ap (λ k. k.task) call.kept) i)) s.tasked;
      roomy = λ x t some at. absurd (none_some _ x c.take-room.ensures.after some);
      in_run = grown_in old.opened new.opened old.part new.part e extends.4 extends.3 s.in_run (submit_in old.opened seat.number c.args.attempt c.submit-answer.result.0 seat.counts.task s.tasked c.requires.task);
    }

pub returns-clause-seen : goal.returns-clause-seen
returns-clause-seen g c = sees_last c.args.self.now.seat.place.me.0 c.submit-answer.new.self.place.me.0 _ c.submit-answer.ensures.made.1

pub returns-clause-own : goal.returns-clause-own
returns-clause-own g c = own_grown c.args.self.now.seat.place.me.0 c.submit-answer.new.self.place.me.0 _ c.submit-answer.ensures.made.1

pub copied-copy-requires : goal.copied-copy-requires
copied-copy-requires g c r is =
    let s = c.args.self.now in
    let a = c.args.attempt in
    let setting = setting_of s.seat.place.me.0.opened in
    (setting.design, c.requires.is_for.design, subst (λ (given : List BitVector). IsRoom setting.design a.rule given r) (sym c.requires.is_for.inputs) (s.roomy r (task_of a) (sym c.take-room.ensures.value ∙ is) c.requires.task))
