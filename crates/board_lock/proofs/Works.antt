-- Seats are split off, work, and are joined.
use Rattle.std.proofs.Common.{◌*◌, ◌≡◌, ℕ, zero, suc, ◌+◌, ◌-◌, ◌^◌, ◌<◌, ◌≤◌, Bool, cond, eqb, eq-eqb, ne_eqb, List, [], ◌∷◌, ◌++◌, length, sym, refl, ap, ◌∙◌, subst, inl, inr, ⊎_elim, arith, Option, Some, None, append-nil}
use Rattle.std.proofs.lemmas.List.{append_cancel_left}
use mathlib.Core.Logic.{dite}
use mathlib.Core.Option.{some, some-injective, some-ne-none}
use native.Mathlib.Decide.{ℕ_discrete}
use lib.ListN.{get_elem?}
use Rattle.atomic_table.specs.Seated.{TableId}
use Rattle.kw_bits.specs.Faults.{Rose}
use Rattle.attempt_log.specs.declared.entry.Entry.{Entry}
use Rattle.board_core.specs.Board.{Opening}
use Rattle.attempt_log.specs.declared.report.Report.{Report}
use Rattle.spec_worker.specs.Work.{Counted, Ends, Gains}
use Rattle.spec_worker.proofs.Gaining.{all_kinds}
use Rattle.board_lock.specs.Histories.{IsPast, StartsWith, by}
use Rattle.board_lock.specs.Plays.{IsOwner, CanSplit, Stands, KnowsAll, done_of, left, newcomer, joined}
use Rattle.board_lock.specs.Work.{Told, Worked}
use Rattle.board_lock.specs.inner.Work.{HasWorked, IsReady, JoinedFrom, Matches, Reports, SplitBy}
use Rattle.board_lock.specs.declared.view.View.{View}
use Rattle.board_lock.specs.declared.view.Done.{Done}
use Rattle.board_lock.proofs.Own.{by-append}
use Rattle.board_lock.proofs.Histories.{past_stays}

pub can_split : (n : ℕ) (v w : View) → SplitBy n v w → n < 64 → CanSplit w.part
can_split n v w s few = let out = s.out in
    (s.own, ⊎_elim (λ (z : n ≡ 0). inl (out ∙ z)) (λ (t : (w.part.top ≡ n) × (w.part.was ≡ v.seen) × (w.part.dones ≡ [])). inr (out ∙ sym t.0)) s.first, omega (arith, out, few))

pub split_none : (v : View) → IsOwner v.part → v.part.out ≡ 0 → SplitBy 0 v v
split_none v own none-out = record { seen = refl; opened = refl; stage = refl; own = own; out = none-out; first = inl refl }

pub split_more : (n : ℕ) (v w : View) → SplitBy n v w → SplitBy (n + 1) v (left w)
split_more n v w s = let out = s.out in record {
  seen = s.seen;
  opened = s.opened;
  stage = s.stage;
  own = s.own;
  out = ap (λ (x : ℕ). x + 1) out;
  first = inr (ap (λ (x : ℕ). x + 1) out, was, refl);
}
  where
    was : cond (eqb w.part.out 0) w.seen w.part.was ≡ v.seen
    was = let out = s.out in dite (ℕ_discrete w.part.out 0)
        (λ z. ap (λ (b : Bool). cond b w.seen w.part.was) (eq-eqb w.part.out 0 z) ∙ s.seen)
        (λ nz. ap (λ (b : Bool). cond b w.seen w.part.was) (ne_eqb w.part.out 0 nz) ∙ ⊎_elim (λ (z : n ≡ 0). absurd (nz (out ∙ z))) (λ (t : (w.part.top ≡ n) × (w.part.was ≡ v.seen) × (w.part.dones ≡ [])). t.1) s.first)

pub join_more : (turns n count : ℕ) (v w x : View) (r : Report) (rs : List Report) → JoinedFrom turns (n + 1) count v w rs → x.part.worker ≡ n → x.part.base ≡ v.part.was → Reports turns v.opened r (done_of x) → r.worker ≡ n → JoinedFrom turns n count v (joined w x) (r ∷ rs)
join_more turns n count v w x r rs j number base reports worker = let out = j.out in record {
  opened = j.opened;
  stage = j.stage;
  own = j.own;
  out = omega (arith, out);
  top = j.top;
  was = j.was;
  matches = (worker, number, base, reports, j.matches);
}

-- what a report says of a seat that was taken back, whose counts say what it has seen
pub reports_of : (turns : ℕ) (table : TableId) (base : List Entry) (start : Opening) (n of ended : ℕ) (at : TableId) (w x : View) (r : Report) → HasWorked turns table base start n of ended at w r → (0 < ended → IsPast w.opened w.seen) → x ≡ w → Reports turns start r (done_of x)
reports_of turns table base start n of ended at w x r h finished same = subst (λ (y : View). Reports turns start r (done_of y)) (sym same)
    (h.own, h.all_turns, λ fin. subst (λ (s : Opening). IsPast s w.seen) h.from (finished (h.finished fin)), (let c = h.own in let submits = c.3 in let settles = c.2 in let made = h.made in omega (arith, all_kinds w.part.own, submits, settles, made)), h.made)

has_risen : (a b : ℕ) → Rose a b → 0 < b
has_risen a b h = ⊎_elim (λ (l : a < b). omega (arith, l)) (λ (e : b ≡ 2 ^ 64 - 1). omega (arith, e)) h

pub has_worked : (turns : ℕ) (table : TableId) (base : List Entry) (start : Opening) (n of of' given given' ended ended' : ℕ) (short : Bool) (at at' : TableId) (w w' : View) (r : Report) → IsReady table base start n of at w → of' ≡ of
    → ◌≡◌ {A = TableId × List Entry × Opening} (at', w'.part.base, w'.opened) (at, w.part.base, w.opened) → r.worker ≡ of → Gains (Some w.part.own) given r.submitted r.settled r.turns (Some w'.part.own) given' short → Ends turns r ended ended' → HasWorked turns table base start n of' ended' at' w' r
has_worked turns table base start n of of' given given' ended ended' short at at' w w' r ready number origin worker gains ends =
    let all : w'.part.own ≡ gains.more = ap (λ (o : Option (List Entry)). entries o) gains.grown ∙ ap (λ (l : List Entry). l ++ gains.more) ready.own in record {
      number = number ∙ ready.number;
      same = ap (λ (o : TableId × List Entry × Opening). o.0) origin ∙ ready.same;
      begun = ap (λ (o : TableId × List Entry × Opening). o.1) origin ∙ ready.begun;
      from = ap (λ (o : TableId × List Entry × Opening). o.2) origin ∙ ready.from;
      own = subst (λ (l : List Entry). Counted l r.submitted r.settled r.turns) (sym all) gains.counted;
      worker = worker ∙ ready.number;
      all_turns = ends.0;
      finished = λ fin. has_risen ended ended' (ends.1 fin);
      made = ends.2;
    }
  where
    entries : Option (List Entry) → List Entry
    entries None = []
    entries (Some l) = l

-- the same with what is known of the board's own seat
pub worked : (turns count : ℕ) (v sp : View) (table tb : TableId) (n of of' given given' ended ended' : ℕ) (short : Bool) (at at' : TableId) (w w' : View) (r : Report) → SplitBy count v sp → 1 ≤ count → tb ≡ table → IsReady table v.seen v.opened n of at w → of' ≡ of
    → ◌≡◌ {A = TableId × List Entry × Opening} (at', w'.part.base, w'.opened) (at, w.part.base, w.opened) → r.worker ≡ of → Gains (Some w.part.own) given r.submitted r.settled r.turns (Some w'.part.own) given' short → Ends turns r ended ended' → HasWorked turns tb sp.part.was sp.opened n of' ended' at' w' r
worked turns count v sp table tb n of of' given given' ended ended' short at at' w w' r split positive same ready number origin worker gains ends =
    let was : sp.part.was ≡ v.seen = ⊎_elim (λ (z : count ≡ 0). absurd (omega (arith, z, positive))) (λ (t : (sp.part.top ≡ count) × (sp.part.was ≡ v.seen) × (sp.part.dones ≡ [])). t.1) split.first in
    subst (λ (z : TableId × List Entry × Opening). HasWorked turns z.0 z.1 z.2 n of' ended' at' w' r) (λ i. (sym same i, sym was i, sym split.opened i))
    (has_worked turns table v.seen v.opened n of of' given given' ended ended' short at at' w w' r ready number origin worker gains ends)

matched : (turns : ℕ) (start : Opening) (base : List Entry) (n i : ℕ) (rs : List Report) (ds : List Done) (r : Report) → Matches turns start base n rs ds → get_elem? rs i ≡ some r → (d : Done) × (get_elem? ds i ≡ some d) × (r.worker ≡ n + i) × (d.worker ≡ n + i) × (d.base ≡ base) × Reports turns start r d
matched turns start base n i [] ds r m e = absurd (some-ne-none r (sym e))
matched turns start base n zero (x ∷ rs) (d ∷ ds) r m e =
    let same : x ≡ r = some-injective x r e in
    let a : x.worker ≡ n = m.0 in
    let b : d.worker ≡ n = m.1 in
    (d, refl, ap (λ (y : Report). y.worker) (sym same) ∙ omega (arith, a), omega (arith, b), m.2, subst (λ (y : Report). Reports turns start y d) same m.3)
matched turns start base n (suc i) (x ∷ rs) (d ∷ ds) r m e =
    let h = matched turns start base (n + 1) i rs ds r m.4 e in let a = h.2 in let b = h.3 in (h.0, h.1, omega (arith, a), omega (arith, b), h.4, h.5)
matched turns start base n i (x ∷ rs) [] r m e = absurd m

-- what the history has after what had been seen
pub told : (turns count : ℕ) (v old w : View) (reports : List Report) → old.part.was ≡ v.seen → JoinedFrom turns 0 count old w reports → KnowsAll w → Told turns count v w reports
told turns count v old w reports was j s =
    let is : w.part.was ≡ v.seen = j.was ∙ was in
    let start : w.opened ≡ old.opened = j.opened in
    let from : StartsWith w.seen v.seen = subst (StartsWith w.seen) is s.was in
    let added : List Entry = from.0 in
    let parts : (n : ℕ) → by n w.seen ≡ by n v.seen ++ by n added = λ n. ap (by n) from.1 ∙ by-append n v.seen added in
    record {
      legal = s.legal;
      added = added;
      seen = from.1;
      each = λ i r e.
          let m = matched turns old.opened old.part.was 0 i reports w.part.dones r j.matches e in
          let d : Done = m.0 in
          let stands : Stands w.seen d = s.dones i d m.1 in
          let at : d.worker ≡ 0 + i = m.3 in
          let number : d.worker ≡ i = omega (arith, at) in
          let by_it : r.worker ≡ 0 + i = m.2 in
          let mine : by i w.seen ≡ by i v.seen ++ d.own = subst (λ (n : ℕ). by n w.seen ≡ by n v.seen ++ d.own) number (stands.2 ∙ ap (λ (l : List Entry). by d.worker l ++ d.own) (m.4 ∙ was)) in
          let own : by i added ≡ d.own = append_cancel_left (by i v.seen) (by i added) d.own (sym (parts i) ∙ mine) in
          let reports' : Reports turns old.opened r d = m.5 in
          record {
            worker = omega (arith, by_it);
            counted = subst (λ (l : List Entry). Counted l r.submitted r.settled r.turns) (sym own) reports'.0;
            made = reports'.4;
            all_turns = reports'.1;
            finished = λ fin. past_stays w.opened w.seen d.seen stands.0 (subst (λ (x : Opening). IsPast x d.seen) (sym start) (reports'.2 fin));
            few = subst (λ (l : List Entry). length l ≤ 2 * turns) (sym own) reports'.3;
            done = (d, m.1, sym own, stands.0, number, m.4 ∙ was, stands.1);
          };
      others = λ n above.
          let none : by n w.seen ≡ by n v.seen = s.rest n (let top = j.top in omega (arith, top, above)) ∙ ap (by n) is in
          append_cancel_left (by n v.seen) (by n added) [] (sym (parts n) ∙ (none ∙ sym (append-nil (by n v.seen))));
    }

pub told_run : (turns count n : ℕ) (v old mid w : View) (reports : List Report) → JoinedFrom turns 0 n old mid reports → length reports ≡ n → old.part.out ≡ n → 1 ≤ count → SplitBy count v old → w ≡ mid → (IsOwner mid.part → mid.part.out ≡ 0 → KnowsAll mid) → Worked turns count v w reports
told_run turns count n v old mid w reports j long out some-worker split kept settled =
    let same : n ≡ count = sym out ∙ split.out in
    let was : old.part.was ≡ v.seen = ⊎_elim (λ (z : count ≡ 0). absurd (omega (arith, z, some-worker))) (λ (t : (old.part.top ≡ count) × (old.part.was ≡ v.seen) × (old.part.dones ≡ [])). t.1) split.first in
    (subst (λ (x : View). Told turns count v x reports) (sym kept) (told turns count v old mid reports was (subst (λ (k : ℕ). JoinedFrom turns 0 k old mid reports) same j) (settled j.own j.out)), long ∙ same)

-- the seat that is split off next
pub ready_next : (n : ℕ) (v w : View) (table at at' : TableId) (number : ℕ) (x : View) → SplitBy n v w → at ≡ table → at' ≡ at → x ≡ newcomer w → number ≡ n → IsReady table v.seen v.opened n number at' x
ready_next n v w table at at' number x s same part is of = record {
  number = of;
  same = part ∙ same;
  begun = ap (λ (y : View). y.part.base) is ∙ s.seen;
  seen = ap (λ (y : View). y.seen) is ∙ s.seen;
  from = ap (λ (y : View). y.opened) is ∙ s.opened;
  own = ap (λ (y : View). y.part.own) is;
}
