-- A lock is made, and the board is taken out of it.
use Rattle.std.proofs.Common.{◌≡◌, ℕ, zero, suc, ◌+◌, ◌≤◌, true, false, true≢false, cond, List, [], ◌∷◌, sym, refl, ap, ◌∙◌, subst, arith, Option, Some, None}
use mathlib.Core.Logic.{dite}
use mathlib.Core.Option.{some, none, some-injective, some-ne-none}
use native.Mathlib.Decide.{ℕ_discrete}
use lib.ListN.{get_elem?}
use Rattle.atomic_table.specs.Table.{opening, Final, Seen}
use Rattle.attempt_log.specs.declared.entry.Entry.{Entry}
use Rattle.board_core.specs.Board.{Opening, opened}
use Rattle.board_core.specs.History.{IsLegal}
use Rattle.board_core.specs.Kept.{Kept, StandsFor}
use Rattle.board_lock.specs.Histories.{Leaves}
use Rattle.board_lock.specs.inner.Rule.{any_of, any_ticket, live_of, is_holding, Fits, AllOutside, RoleFits, Rule}
use Rattle.board_lock.specs.Plays.{IsOwner, owning}
use Rattle.board_lock.specs.declared.view.View.{View}
use Rattle.board_lock.specs.declared.view.Stage.{Stage}
use Rattle.board_lock.specs.declared.view.Stage.TheVariants.{Outside, Waiting, Holding}
use Rattle.board_lock.proofs.Sums.{terms_le}
use Rattle.board_lock.proofs.Histories.{nothing_legal}
use Rattle.board_lock.proofs.Own.{whole}
use Rattle.board_lock.proofs.Keeps.{same_view}

single : (P : View → Type 0) (x : View) → P x → (j : ℕ) (v : View) → get_elem? (x ∷ []) j ≡ some v → P v
single P x p zero v e = subst P (some-injective x v e) p
single P x p (suc j) v e = absurd (some-ne-none v (sym e))

pub starts : (k : Kept) → StandsFor k (opened k.opening) → Rule k.opening (opening (0 ∷ 0 ∷ 0 ∷ []) (Some k ∷ []) (owning k.opening))
starts k stands = record {
  log = [];
  drawn = 0;
  served = 0;
  out = 0;
  wide = refl;
  slots = refl;
  ticket = refl;
  serving = refl;
  count = refl;
  waiting = refl;
  few = omega arith;
  lives = refl;
  idle = single (λ (u : View). any_of u ≤ live_of u) (owning k.opening) (omega arith);
  owners = omega arith;
  numbers = λ n. omega arith;
  once = λ n. omega arith;
  legal = nothing_legal k.opening;
  fits = single (Fits k.opening 0 0 []) (owning k.opening) (refl, ([], refl), tt);
  roles = single (λ (u : View). RoleFits 0 [] u.seen u.part) (owning k.opening) (record {
    works = λ e. absurd (true≢false (sym e));
    owns = λ _. record { is_out = refl; top = omega arith; was = ([], refl); rest = λ n _. refl; up = λ n _. refl; dones = λ i d e. absurd (some-ne-none d (sym e)) };
  });
  home = λ _. (k, refl, record { opening = refl; stands = stands });
  away = single (λ (u : View). is_holding u.stage ≡ true → get_elem? (some (Some k) ∷ []) 0 ≡ some none) (owning k.opening) (λ e. absurd (true≢false (sym e)));
}

quiet : (g : Stage) → any_ticket g ≡ 0 → is_holding g ≡ false
quiet Outside e = refl
quiet (Waiting n) e = refl
quiet (Holding n h) e = absurd (omega (arith, e))

-- the table at its end, where no number is out: the board is there, of the history that the board's own seat has seen
pub closes : (start : Opening) (id : ℕ) (v : View) (ws : List ℕ) (xs : List (Option Kept)) → IsOwner v.part → v.part.out ≡ 0 → v.stage ≡ Outside → Final (Seen (Rule start) id v) ws xs
    → (board : Kept) × (get_elem? xs 0 ≡ some (Some board)) × Leaves v.opened v.seen board × IsLegal v.opened v.seen
closes start id v ws xs own none-out outside fin =
    let s = fin.0 in
    let k : Rule start s = fin.1.0 in
    let at : get_elem? s.views id ≡ some v = fin.1.1 in
    let f = (k.roles id v at).owns own.0 in
    let is_out = f.is_out in
    let same : v.seen ≡ k.log = whole k.log v.seen (k.fits id v at).1 (λ n. f.up n (omega (arith, is_out, none-out))) in
    let from : v.opened ≡ start = (k.fits id v at).0 in
    let mine : live_of v ≡ 1 = λ i. cond (own.1 i) 1 0 + cond (own.0 i) 1 0 in
    let all : AllOutside s.views = λ j u e. dite (ℕ_discrete j id)
    (λ here. ap (λ (x : View). is_holding x.stage) (same_view s.views id j v u here at e) ∙ ap is_holding outside)
    (λ apart. let idle = k.idle j u e in quiet u.stage (omega (arith, idle, terms_le live_of s.views id j v u apart at e, k.lives, mine, is_out, none-out))) in
    let h = k.home all in
    let there = fin.4 0 (Some h.0) h.1 in
    (h.0, there, subst (λ (z : Opening × List Entry). Leaves z.0 z.1 h.0) (λ i. (sym from i, sym same i)) h.2, subst (λ (z : Opening × List Entry). IsLegal z.0 z.1) (λ i. (sym from i, sym same i)) k.legal)

pub taken_is : (xs : List (Option Kept)) (x : Option Kept) (board : Kept) → get_elem? xs 0 ≡ some x → get_elem? xs 0 ≡ some (Some board) → x ≡ Some board
taken_is xs x board a b = some-injective x (Some board) (sym a ∙ b)

pub some_is : (x y : Kept) → ◌≡◌ {A = Option Kept} (Some x) (Some y) → x ≡ y
some_is x y e = ap (λ (o : Option Kept). inside x o) e
  where
    inside : Kept → Option Kept → Kept
    inside d (Some z) = z
    inside d None = d
