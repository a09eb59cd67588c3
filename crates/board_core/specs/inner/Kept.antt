-- What private functions alone cite of this crate's `Kept`.
use Rattle.std.specs.Prelude.{◌≡◌, ℕ, ◌+◌, ◌≤◌, All, nat_le, nat_lt, Bool, false, ◌==◌, ◌&&◌, ◌||◌, List, [], ◌∷◌, length, Option, IfSome, slice_index_or}
use Rattle.std.specs.List.{count_by}
use Rattle.kw_bits.specs.BitVector.{BitVector}
use Rattle.typed_core.specs.Same.{SameDesign}
use Rattle.typed_core.specs.Widths.{HaveWidths, register_widths}
use Rattle.typed_core.specs.declared.design.Parts.{Parts}
use Rattle.one_rule.specs.Stimulus.{InputVectors}
use Rattle.one_rule.specs.declared.rows.Row.{Row}
use Rattle.attempt_log.specs.Attempt.{Attempted}
use Rattle.attempt_log.specs.Past as past
use Rattle.board_core.specs.Board.{Board}
use Rattle.board_core.specs.Position.{IsOpening, IsPlain}
use Rattle.board_core.specs.declared.blank.Blank.{Blank}
use Rattle.board_core.specs.declared.kept.TheConstants.{MAX_CYCLES, MAX_WINDOW}
use Rattle.board_core.specs.declared.place.Place.{Place}
use Rattle.board_core.specs.Kept.{Kept, StandsFor}

-- the registers that rows begin with
abbrev pub opened_on : List Row → List BitVector
opened_on [] = []
opened_on (row ∷ rows) = row.regs

-- what contracts see of a core of these parts
abbrev pub kept_by : Parts → InputVectors → ℕ → ℕ → ℕ → ℕ → Place → List Row → List (List (Option Attempted)) → Kept
kept_by design stimulus from to window cycle place rows slots =
    record {
      opening = record { design = design; stimulus = stimulus; regs = opened_on rows; from = from; to = to; window = window };
      cycle = cycle;
      place = place;
      rows = rows;
      slots = slots;
    }

-- the registers fit the design, there is a flag for each rule, and no more rules are committed than settled; this is
-- for private functions alone
pub record IsShaped (design : Parts) (place : Place) : Type 0 where
  pub registers : HaveWidths (register_widths design) place.regs
  pub fired : length place.fired.items ≡ length design.rules
  pub settled : length place.settled.items ≡ length design.rules
  pub places : past.HasPlaces (length design.regs) place.past
  pub few : place.past.count ≤ count_by (λ (is_settled : Bool). is_settled) place.settled.items

-- ---- what a core keeps for itself, for private functions alone

-- there is room for a row of the design
pub record IsBlank (design : Parts) (blank : Blank) : Type 0 where
  pub registers : blank.regs ≡ record { items = []; capacity = length design.regs }
  pub flags : blank.fired ≡ record { items = []; capacity = length design.rules }

-- what a slot holds is an attempt at a design of equal value
abbrev pub HoldsSame : Parts → Option Attempted → Type 0
HoldsSame design held = IfSome held (λ (a : Attempted). SameDesign a.design design)

-- there is a slot for each rule
pub record HasSlots (design : Parts) (slots : List (Option Attempted)) : Type 0 where
  pub count : length slots ≡ length design.rules
  pub same : All (HoldsSame design) slots

-- the core stands for a board at a plain position, and has room for the rows that are to come
pub record IsSound (kept : Kept) (blanks : List Blank) (capacity : ℕ) : Type 0 where
  pub opening : IsOpening kept.opening
  pub last : kept.opening.to ≤ MAX_CYCLES
  pub window : 1 ≤ kept.opening.window
  pub few_ahead : kept.opening.window ≤ MAX_WINDOW
  pub board : Board
  pub stands : StandsFor kept board
  pub plain : IsPlain kept.opening board
  pub place : IsShaped kept.opening.design kept.place
  pub cycles : length kept.slots ≡ kept.opening.window
  pub slots : All (HasSlots kept.opening.design) kept.slots
  pub rooms : All (IsBlank kept.opening.design) blanks
  pub left : length blanks + kept.cycle ≡ kept.opening.to + 1
  pub room : length kept.rows + length blanks ≤ capacity

-- the attempt comes late
abbrev pub comes_late : Kept → Attempted → Bool
comes_late kept a = nat_lt a.cycle kept.cycle || ((a.cycle == kept.cycle) && slice_index_or kept.place.settled.items a.rule false)

-- it is too far ahead
abbrev pub comes_ahead : Kept → Attempted → Bool
comes_ahead kept a = nat_le (kept.cycle + kept.opening.window) a.cycle || nat_lt kept.opening.to a.cycle

-- it is neither
pub record IsNear (kept : Kept) (a : Attempted) : Type 0 where
  pub in_time : comes_late kept a ≡ false
  pub in_window : comes_ahead kept a ≡ false
