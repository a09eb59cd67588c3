use Rattle.std.proofs.Common.{rules, ◌≡◌, ℕ, ◌+◌, List, [], ◌∷◌, ◌++◌, length, reverse, get_or, sym, refl, ap, ◌∙◌, subst, arith, length-append}
use Rattle.std.proofs.lemmas.List.{get_or_push, get_or_append_left, reverse-append}
use Rattle.attempt_log.specs.declared.report.Report.{Report}
use Rattle.spec_worker.specs.declared.Working.{Working}
use Rattle.board_lock.specs.declared.notes.Note.{Note}
use Rattle.board_lock.specs.declared.journal.NotingSeat.{NotingSeat}
use Rattle.board_lock.specs.declared.view.Done.{Done}
use Rattle.attempt_log.specs.declared.entry.Entry.{Entry}
use Rattle.board_core.specs.Board.{Opening}
use Rattle.board_lock.specs.Histories.{Each, InRun}
use Rattle.board_lock.specs.inner.Receipts.{receipts, Noting}
use Rattle.board_lock.proofs.Noting.{noting_more}
use Rattle.board_lock.specs.declared.view.View.{View}
use Rattle.board_lock.specs.Plays.{done_of}
use Rattle.board_lock.specs.inner.Work.{JoinedFrom}
use Rattle.board_lock.specs.inner.Work.{HasWorked}
use Rattle.board_lock.proofs.Works.{join_more, reports_of}
use Rattle.board_lock.proofs.journal.join_noting.Goals as goal

pub loop-noting-preserved : goal.loop-noting-preserved
loop-noting-preserved g c =
    let W : Type 0 = Working (NotingSeat g.row.R.Denot) in
    let T = c.args.place.now.table_id in
    let v : View = c.args.place.now.me.0 in
    let old : List W = c.loop-noting.seats.items in
    let new : List W = c.pop.new.self.items in
    let x : W = c.in-Some.field-0 in
    let k : ℕ = length new in
    let is : old ≡ new ++ x ∷ [] = c.in-Some.ensures.items in
    let long : length old ≡ k + 1 = ap (λ (l : List W). length l) is ∙ length-append new (x ∷ []) in
    let Good : ℕ → W → Type 0 = λ i w. HasWorked c.args.turns T v.part.was v.opened i w.seat.seat.number w.seat.seat.counts.ended w.seat.seat.place.table_id w.seat.seat.place.me.0 w.report in
    let mine : Good k x = subst (Good k) (ap (λ (l : List W). get_or l k x) is ∙ get_or_push new x x k refl) (c.loop-noting.invariant.each k x (omega (arith, long))) in
    let place = c.into_place.ensures.place in
    let rs : List Report = reverse c.loop-noting.reports.items in
    let w : View = c.loop-noting.place.me.0 in
    let more : JoinedFrom c.args.turns k (length c.args.seats.items) v _ (x.report ∷ rs) =
    join_more c.args.turns k (length c.args.seats.items) v w c.into_place.result.me.0 x.report rs (subst (λ (n : ℕ). JoinedFrom c.args.turns n (length c.args.seats.items) v w rs) long c.loop-noting.invariant.joined)
    (c.into_place.ensures.number ∙ mine.number)
    (ap (λ p. p.me.0.part.base) place ∙ mine.begun)
    (reports_of c.args.turns _ _ v.opened k _ _ _ x.seat.seat.place.me.0 c.into_place.result.me.0 x.report mine x.seat.seat.finished (ap (λ p. p.me.0) place))
    mine.worker in
    let listed : reverse c.push_reserved.new.self.items ≡ x.report ∷ rs = ap (λ (l : List Report). reverse l) c.push_reserved.ensures.items ∙ reverse-append c.loop-noting.reports.items (x.report ∷ []) in
    record {
      table = search rules;
      carried = search rules;
      count = search rules;
      room = search rules;
      lists_count = search rules;
      lists_room = search rules;
      noting = λ yes.
          let t = c.is_whole-whole.ensures yes in
          let y : View = c.into_place.result.me.0 in
          let l : List Note = c.from_vec.result in
          let ls : List (List Note) = reverse c.loop-noting.lists.items in
          let ds : List Done = w.part.dones in
          let noted : l ≡ receipts k y.seen = c.from_vec.ensures ∙ (x.seat.noted t.1 ∙ (λ i. receipts (mine.number i) (sym place i).me.0.seen)) in
          let in_run = subst (λ (z : Opening × List Entry). Each (InRun z.0) z.1) (λ i. (mine.from i, (sym place i).me.0.part.own)) x.seat.in_run in
          let longer : Noting v.opened k (l ∷ ls) (done_of y ∷ ds) = noting_more v.opened k ls ds l y (subst (λ (n : ℕ). Noting v.opened n ls ds) long (c.loop-noting.invariant.noting t.0)) noted (c.into_place.ensures.number ∙ mine.number) c.into_place.ensures.mine in_run in
          let ordered : reverse c.push_reserved-in-Some.new.self.items ≡ l ∷ ls = ap (λ (q : List (List Note)). reverse q) c.push_reserved-in-Some.ensures.items ∙ reverse-append c.loop-noting.lists.items (l ∷ []) in
          subst (λ (z : List (List Note) × List Done). Noting v.opened k z.0 z.1) (λ i. (sym ordered i, (sym c.join.ensures.joined i).0.part.dones)) longer;
      joined = subst (λ (z : View × List Report). JoinedFrom c.args.turns k (length c.args.seats.items) v z.0 z.1) (λ i. ((sym c.join.ensures.joined i).0, sym listed i)) more;
      each = λ i d in_new. subst (Good i) (ap (λ (l : List W). get_or l i d) is ∙ get_or_append_left new (x ∷ []) d i in_new) (c.loop-noting.invariant.each i d (omega (arith, long, in_new)));
    }
