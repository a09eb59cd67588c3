-- What each step of a ticket lock (Mellor-Crummey and Scott, TOCS 1991) shows: of the step, the view before, the number
-- that was found and the view after.
use Rattle.std.specs.Prelude.{◌≡◌, ◌≢◌, ◌⊎◌, ℕ, ◌+◌, ◌-◌, ◌%◌, ◌^◌, ◌<◌, ◌≤◌, ◌==◌, cond, true, false, List, [], ◌∷◌, ◌++◌, length, take, drop, Option, Some, None, nat_lt, if◌then◌else◌}
use mathlib.Core.Option.{some}
use lib.ListN.{get_elem?}
use Rattle.atomic_table.specs.Table.{Me, Step, rest}
use Rattle.attempt_log.specs.declared.entry.Entry.{Entry}
use Rattle.board_core.specs.Board.{Opening}
use Rattle.board_core.specs.History.{IsLegal}
use Rattle.board_core.specs.Kept.{Kept}
use Rattle.board_lock.specs.Histories.{Leaves, StartsWith, by}
use Rattle.attempt_log.specs.Entries.{worker_of}
use Rattle.board_lock.specs.declared.view.Part.{Part}
use Rattle.board_lock.specs.declared.view.Done.{Done}
use Rattle.board_lock.specs.declared.view.View.{View}
use Rattle.board_lock.specs.declared.view.Stage.{Stage}
use Rattle.board_lock.specs.declared.view.Stage.TheVariants.{Outside, Waiting, Holding}

abbrev pub at_stage : View → Stage → View
at_stage v stage = record { opened = v.opened; seen = v.seen; stage = stage; part = v.part }

-- a worker's part with one more entry of its own
abbrev pub grown : Part → Entry → Part
grown p e = record { works = p.works; owns = p.owns; worker = p.worker; base = p.base; own = p.own ++ e ∷ []; out = p.out; top = p.top; was = p.was; dones = p.dones }

-- the history that it holds with the board
abbrev pub held : Stage → List Entry
held Outside = []
held (Waiting n) = []
held (Holding n h) = h

-- outside, having seen the history that it held
abbrev pub having_seen : View → View
having_seen v = record { opened = v.opened; seen = held v.stage; stage = Outside; part = v.part }

abbrev pub knowing : View → List Entry → Entry → Stage → View
knowing v seen e stage = record { opened = v.opened; seen = seen; stage = stage; part = grown v.part e }

-- a worker's part, and the board's own
abbrev pub IsWorker : Part → Type 0
IsWorker p = (p.works ≡ true) × (p.owns ≡ false)

-- of its number the history has the entries before its start and its own, in order, each once
abbrev pub Mine : Part → List Entry → Type 0
Mine p log = by p.worker log ≡ by p.worker p.base ++ p.own

-- what had been seen at its start begins the history, and of the entries after that those of its number are its own, in
-- order, each once
abbrev pub OwnSince : Part → List Entry → Type 0
OwnSince p log = (take (length p.base) log ≡ p.base) × (by p.worker (drop (length p.base) log) ≡ p.own)

abbrev pub IsOwner : Part → Type 0
IsOwner p = (p.owns ≡ true) × (p.works ≡ false)

module _ where
  -- a ticket was drawn
  abbrev pub drew : Step (Option Kept) → Me (Option Kept) View → ℕ → Me (Option Kept) View → Type 0
  drew st m r n = (ticket : ℕ) × (r ≡ ticket % 2 ^ 64) × (n ≡ (at_stage m.0 (Waiting ticket), m.1))

  -- where it is its turn, the seat has the slot with the board, and knows the history that the board stands for
  abbrev pub looked : Step (Option Kept) → Me (Option Kept) View → ℕ → Me (Option Kept) View → Type 0
  looked st m r n =
      (ticket : ℕ) → m.0.stage ≡ Waiting ticket →
      (r ≡ ticket % 2 ^ 64 → (log : List Entry) × (board : Kept) × Leaves m.0.opened log board × (n ≡ (at_stage m.0 (Holding ticket log), (0, Some board) ∷ m.1)) × IsLegal m.0.opened log × StartsWith log m.0.seen × (m.0.part.works ≡ true → Mine m.0.part log))
      × (r ≢ ticket % 2 ^ 64 → n ≡ m)

  -- the entry was added
  abbrev pub Adds : Entry → Me (Option Kept) View → ℕ → Me (Option Kept) View → Type 0
  Adds e m r n =
      (ticket : ℕ) (log : List Entry) → m.0.stage ≡ Holding ticket log →
      (r ≡ length log % 2 ^ 64) × (n ≡ (knowing m.0 (log ++ e ∷ []) e (Holding ticket (log ++ e ∷ [])), m.1))

  abbrev pub added : Entry → Step (Option Kept) → Me (Option Kept) View → ℕ → Me (Option Kept) View → Type 0
  added e st m r n = Adds e m r n

  -- the board was put back
  abbrev pub gave : Step (Option Kept) → Me (Option Kept) View → ℕ → Me (Option Kept) View → Type 0
  gave st m r n = n ≡ (at_stage m.0 Outside, rest m.1)

  -- the board was put back, and the history that it stands for was noted as seen
  abbrev pub gave_seen : Step (Option Kept) → Me (Option Kept) View → ℕ → Me (Option Kept) View → Type 0
  gave_seen st m r n = n ≡ (having_seen m.0, rest m.1)

-- the seat has no ticket and no slot
abbrev pub IsOutside : Me (Option Kept) View → Type 0
IsOutside m = (m.0.stage ≡ Outside) × (m.1 ≡ [])

-- it waits with this ticket
abbrev pub Waits : Me (Option Kept) View → ℕ → Me (Option Kept) View → Type 0
Waits m word n = (ticket : ℕ) × (word ≡ ticket % 2 ^ 64) × (n ≡ (at_stage m.0 (Waiting ticket), []))

-- it has its turn and the empty slot, and knows the history, which is legal and begins with all that it had seen
abbrev pub Holds : Me (Option Kept) View → List Entry → Me (Option Kept) View → Type 0
Holds m log n = (ticket : ℕ) × (n ≡ (at_stage m.0 (Holding ticket log), (0, None) ∷ [])) × IsLegal m.0.opened log × StartsWith log m.0.seen × (m.0.part.works ≡ true → Mine m.0.part log)

-- the board stands for the history that the seat then holds
abbrev pub HoldsBoard : Me (Option Kept) View → Kept → Me (Option Kept) View → Type 0
HoldsBoard m board n = (log : List Entry) × Leaves m.0.opened log board × Holds m log n

-- the history is what was seen, then others' entries, and then this one; it is one more of the seat's own
abbrev pub Extends : View → Entry → View → Type 0
Extends v e w = (between : List Entry) × (w.seen ≡ (v.seen ++ between) ++ e ∷ []) × IsLegal v.opened w.seen × (w.part ≡ grown v.part e) × (w.opened ≡ v.opened) × Mine w.part w.seen

-- the entry was added after all that is in the history
abbrev pub HasAdded : Me (Option Kept) View → Entry → ℕ → Me (Option Kept) View → Type 0
HasAdded m e place n =
    (ticket : ℕ) × (log : List Entry) × (m ≡ (at_stage m.0 (Holding ticket log), (0, None) ∷ [])) × (place ≡ length log % 2 ^ 64)
    × (n ≡ (knowing m.0 (log ++ e ∷ []) e (Holding ticket (log ++ e ∷ [])), m.1))

-- it can add the entry
abbrev pub CanAdd : Me (Option Kept) View → Entry → Type 0
CanAdd m e = (ticket : ℕ) × (log : List Entry) × (m.0.stage ≡ Holding ticket log) × IsLegal m.0.opened (log ++ e ∷ []) × IsWorker m.0.part × (worker_of e ≡ m.0.part.worker)

-- it can put the board back
abbrev pub CanGive : Me (Option Kept) View → Kept → Type 0
CanGive m board = (ticket : ℕ) × (log : List Entry) × (m.0.stage ≡ Holding ticket log) × Leaves m.0.opened log board × ((out : Option Kept) × (m.1 ≡ (0, out) ∷ []))

-- its turn has come, and it has the slot with the board
abbrev pub Served : Me (Option Kept) View → Me (Option Kept) View → Type 0
Served m n = (ticket : ℕ) × (log : List Entry) × (board : Kept) × Leaves m.0.opened log board × (n ≡ (at_stage m.0 (Holding ticket log), (0, Some board) ∷ [])) × IsLegal m.0.opened log × StartsWith log m.0.seen × (m.0.part.works ≡ true → Mine m.0.part log)

-- from outside to outside: the history is what was seen, then others' entries, and last this one, which is one more of
-- the seat's own
abbrev pub Made : Me (Option Kept) View → Entry → Me (Option Kept) View → Type 0
Made m e n = IsOutside n × Extends m.0 e n.0

-- from outside to outside: the history goes on from what was seen and is legal, and no entry of the seat's own is
-- added. The board stood for it
abbrev pub Asked : Me (Option Kept) View → Kept → Me (Option Kept) View → Type 0
Asked m board n = IsOutside n × StartsWith n.0.seen m.0.seen × IsLegal m.0.opened n.0.seen × Leaves m.0.opened n.0.seen board × (n.0.part ≡ m.0.part) × (n.0.opened ≡ m.0.opened) × (m.0.part.works ≡ true → Mine m.0.part n.0.seen)

-- the board's own seat gives out its next number; the first time it notes what it has seen
abbrev pub parted : List Entry → Part → Part
parted seen p = record { works = p.works; owns = p.owns; worker = p.worker; base = p.base; own = p.own; out = p.out + 1; top = p.out + 1; was = cond (p.out == 0) seen p.was; dones = [] }

abbrev pub left : View → View
left v = record { opened = v.opened; seen = v.seen; stage = v.stage; part = parted v.seen v.part }

abbrev pub newcomer : View → View
newcomer v = record { opened = v.opened; seen = v.seen; stage = Outside; part = record { works = true; owns = false; worker = v.part.out; base = v.seen; own = []; out = 0; top = 0; was = []; dones = [] } }

abbrev pub CanSplit : Part → Type 0
CanSplit p = IsOwner p × ((p.out ≡ 0) ⊎ (p.out ≡ p.top)) × (p.out + 2 < 2 ^ 32)

abbrev pub longer : List Entry → List Entry → List Entry
longer a b = if nat_lt (length a) (length b) then b else a

abbrev pub done_of : View → Done
done_of w = record { worker = w.part.worker; base = w.part.base; seen = w.seen; own = w.part.own }

abbrev pub closing : Part → View → Part
closing p w = record { works = p.works; owns = p.owns; worker = p.worker; base = p.base; own = p.own; out = p.out - 1; top = p.top; was = p.was; dones = done_of w ∷ p.dones }

abbrev pub joined : View → View → View
joined v w = record { opened = v.opened; seen = longer v.seen w.seen; stage = v.stage; part = closing v.part w }

abbrev pub spent : Opening → View
spent begun = record { opened = begun; seen = []; stage = Outside; part = record { works = false; owns = false; worker = 0; base = []; own = []; out = 0; top = 0; was = []; dones = [] } }

abbrev pub owning : Opening → View
owning begun = record { opened = begun; seen = []; stage = Outside; part = record { works = false; owns = true; worker = 0; base = []; own = []; out = 0; top = 0; was = []; dones = [] } }

-- no board, for a name that isn't chosen
abbrev pub nothing : Opening
nothing = record { design = record { regs = []; inputs = []; tables = []; hosts = []; rules = []; nodes = [] }; stimulus = record { widths = []; cycles = [] }; regs = []; from = 0; to = 0; window = 0 }

abbrev pub CanJoin : Part → View → Type 0
CanJoin p w = IsOwner p × IsWorker w.part × (w.stage ≡ Outside) × (p.out ≡ w.part.worker + 1)

-- a joined seat's last history begins this one, in which its number has its own entries after its start, each once
abbrev pub Stands : List Entry → Done → Type 0
Stands h d = StartsWith h d.seen × StartsWith d.seen d.base × (by d.worker h ≡ by d.worker d.base ++ d.own)

-- the board's own seat has seen one legal history. After what was seen when the first number was given out, it has of
-- each number the entries that its seats made, and nothing of numbers that were not given out
pub record KnowsAll (v : View) : Type 0 where
  pub legal : IsLegal v.opened v.seen
  pub was : StartsWith v.seen v.part.was
  pub rest : (n : ℕ) → v.part.top ≤ n → by n v.seen ≡ by n v.part.was
  pub dones : (i : ℕ) (d : Done) → get_elem? v.part.dones i ≡ some d → Stands v.seen d

abbrev pub learned : Step (Option Kept) → Me (Option Kept) View → ℕ → Me (Option Kept) View → Type 0
learned st m r n = (n ≡ m) × (IsOwner m.0.part → m.0.part.out ≡ 0 → KnowsAll m.0)
