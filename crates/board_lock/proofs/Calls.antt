-- A whole call: the board is taken, changed, its entry added, and put back.
use Rattle.std.proofs.Common.{◌≡◌, true, ℕ, ◌-◌, ◌%◌, ◌^◌, List, [], ◌∷◌, ◌++◌, length, length-append, arith, append_assoc, Option, None, refl, sym, ap, ◌∙◌, subst}
use Rattle.atomic_table.specs.Table.{Me}
use Rattle.attempt_log.specs.declared.entry.Entry.{Entry}
use Rattle.board_core.specs.Board.{Opening}
use Rattle.board_core.specs.History.{IsLegal}
use Rattle.board_core.specs.Kept.{Kept}
use Rattle.board_lock.specs.Histories.{Leaves, by}
use Rattle.board_core.specs.History.{GoesOn}
use Rattle.attempt_log.specs.Entries.{worker_of}
use Rattle.board_lock.specs.Plays.{at_stage, having_seen, knowing, Asked, IsWorker, Adds, CanAdd, CanGive, HoldsBoard, Made}
use Rattle.board_lock.specs.declared.view.Part.{Part}
use Rattle.board_lock.specs.declared.view.View.{View}
use Rattle.board_lock.specs.declared.view.Stage.TheVariants.{Outside, Holding}
use Rattle.board_core.proofs.Histories.{legal_goes_on}
use Rattle.board_lock.proofs.Own.{by_same}

abbrev pub Sat : Type 0
Sat = Me (Option Kept) View

-- the opening of the board that a seat is at
abbrev pub o : Sat → Opening
o m = m.0.opened

part_kept : (m n : Sat) (board : Kept) → HoldsBoard m board n → n.0.part ≡ m.0.part
part_kept m n board h = ap (λ (x : Sat). x.0.part) h.2.1

pub worker_kept : (m n : Sat) (board : Kept) → HoldsBoard m board n → n.0.part.worker ≡ m.0.part.worker
worker_kept m n board h = ap (λ (x : Sat). x.0.part.worker) h.2.1

pub can_add : (m n : Sat) (board : Kept) (e : Entry) (h : HoldsBoard m board n) → GoesOn (o m) h.0 e → IsWorker m.0.part → worker_of e ≡ m.0.part.worker → CanAdd n e
can_add m n board e h is worker of =
    let start : o n ≡ o m = ap (λ (x : Sat). x.0.opened) h.2.1 in (
      h.2.0,
      h.0,
      ap (λ (x : Sat). x.0.stage) h.2.1,
      subst (λ (x : Opening). IsLegal x (h.0 ++ e ∷ [])) (sym start) ((legal_goes_on (o m) h.0 e h.2.2 is).0),
      subst IsWorker (sym (part_kept m n board h)) worker,
      of ∙ ap (λ (x : Part). x.worker) (sym (part_kept m n board h)),
    )

-- what the seat is after its entry was added
added_to : (m n p : Sat) (board : Kept) (place : ℕ) (e : Entry) → HoldsBoard m board n → Adds e n place p
    → (ticket : ℕ) × (log : List Entry) × (p ≡ (knowing m.0 (log ++ e ∷ []) e (Holding ticket (log ++ e ∷ [])), (0, None) ∷ []))
added_to m n p board place e h a =
    let stage = ap (λ (x : Sat). x.0.stage) h.2.1 in
    let is = (a h.2.0 h.0 stage).1 in
    (h.2.0, h.0, is ∙ ap (λ (x : Sat). (knowing x.0 (h.0 ++ e ∷ []) e (Holding h.2.0 (h.0 ++ e ∷ [])), x.1)) h.2.1)

pub can_give : (m n p : Sat) (board : Kept) (place : ℕ) (new : Kept) (e : Entry) (h : HoldsBoard m board n) → Adds e n place p → Leaves (o m) (h.0 ++ e ∷ []) new → CanGive p new
unfolding added_to
can_give m n p board place new e h a l =
    let t = added_to m n p board place e h a in
    let start : o p ≡ o m = ap (λ (x : Sat). x.0.opened) t.2 in (
      h.2.0,
      h.0 ++ e ∷ [],
      ap (λ (x : Sat). x.0.stage) t.2,
      subst (λ (x : Opening). Leaves x (h.0 ++ e ∷ []) new) (sym start) l,
      (None, ap (λ (x : Sat). x.1) t.2),
    )

pub can_put_back : (m n : Sat) (board : Kept) → HoldsBoard m board n → CanGive n board
can_put_back m n board h =
    (h.2.0, h.0, ap (λ (x : Sat). x.0.stage) h.2.1, subst (λ (x : Opening). Leaves x h.0 board) (sym (ap (λ (x : Sat). x.0.opened) h.2.1)) h.1, (None, ap (λ (x : Sat). x.1) h.2.1))

pub made : (m n p q : Sat) (board : Kept) (place : ℕ) (e : Entry) (h : HoldsBoard m board n) → GoesOn (o m) h.0 e → Adds e n place p → q ≡ (at_stage p.0 Outside, []) → m.0.part.works ≡ true → worker_of e ≡ m.0.part.worker → Made m e q
unfolding added_to
made m n p q board place e h is a gave works of =
    let t = added_to m n p board place e h a in
    let last : q ≡ (knowing m.0 (h.0 ++ e ∷ []) e Outside, []) = gave ∙ ap (λ (x : Sat). (at_stage x.0 Outside, [])) t.2 in
    subst (Made m e) (sym last)
    ((refl, refl), (h.2.3.0, ap (λ (l : List Entry). l ++ e ∷ []) h.2.3.1, (legal_goes_on (o m) h.0 e h.2.2 is).0, refl, refl, by_same m.0.part.worker h.0 e of ∙ (ap (λ (l : List Entry). l ++ e ∷ []) (h.2.4 works) ∙ append_assoc (by m.0.part.worker m.0.part.base) m.0.part.own (e ∷ []))))

-- what it has then seen
pub seen_by : (m n p q : Sat) (board : Kept) (place : ℕ) (e : Entry) (h : HoldsBoard m board n) → Adds e n place p → q ≡ (at_stage p.0 Outside, []) → q.0.seen ≡ h.0 ++ e ∷ []
unfolding added_to
seen_by m n p q board place e h a gave = ap (λ (x : Sat). x.0.seen) gave ∙ ap (λ (x : Sat). x.0.seen) (added_to m n p board place e h a).2

pub receipt : (m n p q : Sat) (board : Kept) (place : ℕ) (e : Entry) → HoldsBoard m board n → Adds e n place p → q ≡ (at_stage p.0 Outside, []) → place ≡ (length q.0.seen - 1) % 2 ^ 64
receipt m n p q board place e h a gave =
    let stage = ap (λ (x : Sat). x.0.stage) h.2.1 in
    let found : place ≡ length h.0 % 2 ^ 64 = (a h.2.0 h.0 stage).0 in
    found ∙ ap (λ (k : ℕ). k % 2 ^ 64) (omega (arith, ap length (seen_by m n p q board place e h a gave), length-append h.0 (e ∷ [])))

-- a whole call that asks: the board is put back as it was
pub asked : (m n q : Sat) (board : Kept) → HoldsBoard m board n → q ≡ (having_seen n.0, []) → Asked m board q
asked m n q board h gave =
    let last : q ≡ (having_seen (at_stage m.0 (Holding h.2.0 h.0)), []) = gave ∙ ap (λ (x : Sat). (having_seen x.0, [])) h.2.1 in
    subst (Asked m board) (sym last) ((refl, refl), h.2.3, h.2.2, h.1, refl, refl, h.2.4)
