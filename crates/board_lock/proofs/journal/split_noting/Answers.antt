use Rattle.std.proofs.Common.{rules, ◌≡◌, ℕ, List, [], ◌∷◌, ◌++◌, length, get_or, ap, sym, subst, ◌∙◌, arith}
use Rattle.std.proofs.lemmas.List.{get_or_push, get_or_append_left}
use mathlib.Core.Logic.{dite}
use native.Mathlib.Decide.{ℕ_discrete}
use Rattle.spec_worker.specs.declared.Working.{Working}
use Rattle.board_lock.specs.inner.Work.{IsReady}
use Rattle.board_lock.specs.declared.journal.NotingSeat.{NotingSeat}
use Rattle.board_lock.specs.declared.view.View.{View}
use Rattle.board_lock.proofs.Works.{ready_next}
use Rattle.board_lock.proofs.journal.split_noting.Goals as goal

pub loop-number-preserved : goal.loop-number-preserved
loop-number-preserved g c =
    let W : Type 0 = Working (NotingSeat g.row.R.Denot) in
    let old : List W = c.loop-number.seats.items in
    let new : List W = c.push_reserved.new.self.items in
    let n : ℕ = c.loop-number.number in
    let x : W = record { seat = c.new-seat.result; report = c.new-in-loop-number.result } in
    let is : new ≡ old ++ x ∷ [] = c.push_reserved.ensures.items in
    let long : length old ≡ n = c.loop-number.invariant.count in
    let v : View = c.args.place.now.me.0 in
    let Good : ℕ → W → Type 0 = λ i w. IsReady c.args.place.now.table_id v.seen v.opened i w.seat.seat.number w.seat.seat.place.table_id w.seat.seat.place.me.0 in
    let place = c.new-seat.ensures.place ∙ c.new.ensures.place in
    let mine : Good n x = ready_next n v c.loop-number.place.me.0 _ c.loop-number.place.table_id x.seat.seat.place.table_id x.seat.seat.number x.seat.seat.place.me.0 c.loop-number.invariant.split c.loop-number.invariant.table (ap (λ p. p.table_id) place ∙ c.split-part.ensures.part.0) (ap (λ p. p.me.0) place ∙ ap (λ m. m.0) c.split-part.ensures.part.1) (c.new-seat.ensures.number ∙ c.new.ensures.number) in
    record {
      table = search rules;
      carried = search rules;
      split = search rules;
      room = search rules;
      count = search rules;
      each = λ i d below. subst (λ (l : List W). Good i (get_or l i d)) (sym is) (dite (ℕ_discrete i n)
          (λ same. subst (λ (k : ℕ). Good k (get_or (old ++ x ∷ []) k d)) (sym same) (subst (Good n) (sym (get_or_push old x d n long)) mine))
          (λ ne. subst (Good i) (sym (get_or_append_left old (x ∷ []) d i (omega (arith, below, ne, long)))) (c.loop-number.invariant.each i d (omega (arith, below, ne)))));
    }
