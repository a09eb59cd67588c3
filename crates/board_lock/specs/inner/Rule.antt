-- What always holds of a ticket lock (Mellor-Crummey and Scott, TOCS 1991) with a third word that counts events, and of
-- its slot with the board: all that is seen is part of one legal history.
use Rattle.std.specs.Prelude.{◌≡◌, ℕ, ◌+◌, ◌%◌, ◌^◌, ◌<◌, ◌≤◌, Bool, true, false, ◌==◌, cond, List, [], ◌∷◌, ◌++◌, length, slice_index, Option, Some}
use mathlib.Core.Option.{some, none}
use lib.ListN.{get_elem?}
use Rattle.atomic_table.specs.Table.{State}
use Rattle.attempt_log.specs.declared.entry.Entry.{Entry}
use Rattle.board_core.specs.Board.{Opening}
use Rattle.board_core.specs.History.{IsLegal}
use Rattle.board_core.specs.Kept.{Kept}
use Rattle.board_lock.specs.Histories.{Leaves, StartsWith, by}
use Rattle.board_lock.specs.declared.view.View.{View}
use Rattle.board_lock.specs.declared.view.Part.{Part}
use Rattle.board_lock.specs.declared.view.Done.{Done}
use Rattle.board_lock.specs.declared.view.Stage.{Stage}
use Rattle.board_lock.specs.declared.view.Stage.TheVariants.{Outside, Waiting, Holding}

-- f of each, added up
abbrev pub total : {A : Type 0} → (A → ℕ) → List A → ℕ
total f [] = 0
total f (x ∷ xs) = f x + total f xs

abbrev pub has_ticket : ℕ → Stage → ℕ
has_ticket n Outside = 0
has_ticket n (Waiting m) = cond (m == n) 1 0
has_ticket n (Holding m log) = cond (m == n) 1 0

abbrev pub is_holding : Stage → Bool
is_holding Outside = false
is_holding (Waiting m) = false
is_holding (Holding m log) = true

abbrev pub Knows : ℕ → ℕ → List Entry → Stage → Type 0
Knows served drawn log Outside = Unit {0}
Knows served drawn log (Waiting n) = (served ≤ n) × (n < drawn)
Knows served drawn log (Holding n h) = (n ≡ served) × (n < drawn) × (h ≡ log)

abbrev pub Fits : Opening → ℕ → ℕ → List Entry → View → Type 0
Fits start served drawn log v = (v.opened ≡ start) × StartsWith log v.seen × Knows served drawn log v.stage

abbrev pub ticket_of : ℕ → View → ℕ
ticket_of n v = has_ticket n v.stage

abbrev pub any_ticket : Stage → ℕ
any_ticket Outside = 0
any_ticket (Waiting m) = 1
any_ticket (Holding m log) = 1

abbrev pub any_of : View → ℕ
any_of v = any_ticket v.stage

-- 1 of a worker's seat and of the board's own, 0 of a spent one
abbrev pub live_of : View → ℕ
live_of v = cond v.part.works 1 0 + cond v.part.owns 1 0

abbrev pub owner_of : View → ℕ
owner_of v = cond v.part.owns 1 0

abbrev pub number_of : ℕ → View → ℕ
number_of n v = cond v.part.works (cond (v.part.worker == n) 1 0) 0

abbrev pub AllOutside : List View → Type 0
AllOutside views = (j : ℕ) (v : View) → get_elem? views j ≡ some v → is_holding v.stage ≡ false

-- the entries of a worker's number are those before its start and its own, and it has seen them all
pub record WorkerFits (out : ℕ) (log seen : List Entry) (p : Part) : Type 0 where
  pub below : p.worker < out
  pub based : StartsWith seen p.base
  pub made : by p.worker log ≡ by p.worker p.base ++ p.own
  pub up : by p.worker seen ≡ by p.worker log

-- the number of a joined seat isn't out, and its entries are those before its start and its own
pub record DoneFits (out : ℕ) (log : List Entry) (d : Done) : Type 0 where
  pub above : out ≤ d.worker
  pub seen : StartsWith log d.seen
  pub based : StartsWith d.seen d.base
  pub made : by d.worker log ≡ by d.worker d.base ++ d.own

-- the board's own seat has seen all entries of the numbers that aren't out; since no number was out, only numbers below
-- `top` had entries
pub record OwnerFits (out : ℕ) (log seen : List Entry) (p : Part) : Type 0 where
  pub is_out : p.out ≡ out
  pub top : out ≤ p.top
  pub was : StartsWith log p.was
  pub rest : (n : ℕ) → p.top ≤ n → by n log ≡ by n p.was
  pub up : (n : ℕ) → out ≤ n → by n seen ≡ by n log
  pub dones : (i : ℕ) (d : Done) → get_elem? p.dones i ≡ some d → DoneFits out log d

pub record RoleFits (out : ℕ) (log seen : List Entry) (p : Part) : Type 0 where
  pub works : p.works ≡ true → WorkerFits out log seen p
  pub owns : p.owns ≡ true → OwnerFits out log seen p

-- there is one legal history. Its length is the count, and the board that is at home stands for it
pub record Rule (start : Opening) (s : State (Option Kept) View) : Type 0 where
  pub log : List Entry
  pub drawn : ℕ
  pub served : ℕ
  pub out : ℕ
  pub wide : length s.words ≡ 3
  pub slots : length s.homes ≡ 1
  pub ticket : slice_index s.words 0 ≡ drawn % 2 ^ 64
  pub serving : slice_index s.words 1 ≡ served % 2 ^ 64
  pub count : slice_index s.words 2 ≡ length log % 2 ^ 64
  pub waiting : total any_of s.views + served ≡ drawn
  pub few : out + 1 < 2 ^ 32
  pub lives : total live_of s.views ≡ 1 + out
  pub idle : (j : ℕ) (v : View) → get_elem? s.views j ≡ some v → any_of v ≤ live_of v
  pub owners : total owner_of s.views ≤ 1
  pub numbers : (n : ℕ) → total (number_of n) s.views ≤ 1
  pub once : (n : ℕ) → total (ticket_of n) s.views ≤ 1
  pub legal : IsLegal start log
  pub fits : (j : ℕ) (v : View) → get_elem? s.views j ≡ some v → Fits start served drawn log v
  pub roles : (j : ℕ) (v : View) → get_elem? s.views j ≡ some v → RoleFits out log v.seen v.part
  pub home : AllOutside s.views → (k : Kept) × (get_elem? s.homes 0 ≡ some (some (Some k))) × Leaves start log k
  pub away : (j : ℕ) (v : View) → get_elem? s.views j ≡ some v → is_holding v.stage ≡ true → get_elem? s.homes 0 ≡ some none
