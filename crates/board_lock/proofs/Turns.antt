-- What a seat knows once its turn has come.
use Rattle.std.proofs.Common.{◌≡◌, ℕ, List, [], ◌∷◌, Option, Some, None, sym, ap, ◌∙◌, subst}
use mathlib.Core.Option.{none}
use Rattle.atomic_table.specs.Table.{Me, rest, step}
use Rattle.board_core.specs.Kept.{Kept}
use Rattle.board_lock.specs.Histories.{Leaves}
use Rattle.board_lock.specs.Plays.{at_stage, looked, HoldsBoard, Waits, Served}
use Rattle.board_lock.specs.declared.view.View.{View}
use Rattle.board_lock.specs.declared.view.Stage.TheVariants.{Holding}
use Rattle.board_lock.proofs.Ends.{some_is}
use Rattle.board_lock.proofs.Calls.{Sat}

pub served : (m o : Sat) (word found : ℕ) → Waits m word m → looked (step 1 1 0 0 none) m found o → found ≡ word → Served m o
served m o word found w l turn =
    let t = (l w.0 (ap (λ (x : Sat). x.0.stage) w.2)).0 (turn ∙ w.1) in
    (w.0, t.0, t.1, t.2, t.3 ∙ ap (λ (c : List (ℕ × Option Kept)). (at_stage m.0 (Holding w.0 t.0), (0, Some t.1) ∷ c)) (ap (λ (x : Sat). x.1) w.2), t.4, t.5, t.6)

pub slot_out : (m n : Sat) → Served m n → (x : Option Kept) × (n.1 ≡ (0, x) ∷ rest n.1)
slot_out m n s = let out : n.1 ≡ (0, Some s.2) ∷ [] = ap (λ (x : Sat). x.1) s.4 in
    (Some s.2, out ∙ ap (λ (l : List (ℕ × Option Kept)). (0, Some s.2) ∷ rest l) (sym out))

-- the seat took the board out of the slot
pub holds_board : (m n o : Sat) (x : Option Kept) (board : Kept) → Served m n → n.1 ≡ (0, x) ∷ rest n.1 → o ≡ (n.0, (0, None) ∷ rest n.1) → x ≡ Some board → HoldsBoard m board o
holds_board m n o x board s was now is =
    let out : n.1 ≡ (0, Some s.2) ∷ [] = ap (λ (y : Sat). y.1) s.4 in
    let found : Some board ≡ Some s.2 = sym is ∙ ap (λ (l : List (ℕ × Option Kept)). first x l) (sym was ∙ out) in
    (s.1, subst (Leaves m.0.opened s.1) (sym (some_is board s.2 found)) s.3, (s.0, now ∙ (λ i. ((s.4 i).0, (0, None) ∷ rest (s.4 i).1)), s.5, s.6, s.7))
  where
    first : Option Kept → List (ℕ × Option Kept) → Option Kept
    first d [] = d
    first d (y ∷ ys) = y.1
