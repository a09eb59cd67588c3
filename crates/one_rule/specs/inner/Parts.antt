-- How the evaluator goes through the parts of a rule's body: each leaves its value, or what interrupts it, in one slot.
use Rattle.std.specs.Prelude.{◌≡◌, ℕ, ◌≤◌, Bool, true, false, List, ◌∷◌}
use Rattle.kw_bits.specs.BitVector.{BitVector}
use Rattle.typed_core.specs.Evaluation.{Evaluation, Ports, Progress, Stop, Value, unit, ◌>>=◌}
use Rattle.typed_core.specs.Fits.{EventsFit, PortsFit}
use Rattle.typed_core.specs.Valid.{ActionHasWidth, Declarations, TwoHasWidth}
use Rattle.typed_core.specs.Widths.{HaveWidths}
use Rattle.typed_core.specs.declared.access.Event.{Event}
use Rattle.typed_core.specs.declared.action.Action.{Action}
use Rattle.typed_core.specs.declared.action.TwoOp.{TwoOp}
use Rattle.typed_core.specs.declared.outcome.Stopped.{Stopped}
use Rattle.typed_core.specs.declared.outcome.Stopped.TheVariants.{Abort}
use Rattle.one_rule.specs.declared.evaluation.Interrupt.{Interrupt}
use Rattle.one_rule.specs.declared.evaluation.Interrupt.TheVariants as interrupt
use Rattle.one_rule.specs.declared.evaluation.part.End.{End}
use Rattle.one_rule.specs.declared.evaluation.part.End.TheVariants as end
use Rattle.one_rule.specs.declared.evaluation.part.Slot.{Slot}

-- the ports keep what fits registers of these widths, and stand for events that fit
pub record AreReady (d : Declarations) (widths : List ℕ) (reading : Ports Stopped) (stands_for : List Event → Type 0) : Type 0 where
  pub registers : widths ≡ d.regs
  pub fit : PortsFit widths reading
  pub abort : reading.abort ≡ Abort
  pub events : (events : List Event) × stands_for events × EventsFit widths events

-- what interrupts the part says how it ends, and when out of memory nothing
abbrev pub Interrupts : (List Event → Type 0) → Interrupt → Progress BitVector Stopped → Type 0
Interrupts stands_for (interrupt.Stop cause) p = stands_for p.events × (p.ending ≡ Stop cause)
Interrupts stands_for interrupt.NoMemory p = Unit {0}

-- the second part goes on with the value of the first, where it has one
abbrev pub bind : Evaluation BitVector Stopped → (BitVector → Evaluation BitVector Stopped) → Evaluation BitVector Stopped
bind first next = first >>= next

-- what is left says what the part evaluates to, and the events after it are those that are stood for
abbrev pub Leaves : (List Event → Type 0) → End → Slot → Progress BitVector Stopped → Type 0
Leaves stands_for end.Unit slot p = stands_for p.events × (p.ending ≡ Value unit)
Leaves stands_for end.Value slot p = stands_for p.events × (p.ending ≡ Value slot.value)
Leaves stands_for end.Interrupt slot p = Interrupts stands_for slot.interrupt p

-- the same of a part that has a value
abbrev pub LeavesValue : (List Event → Type 0) → Bool → Slot → Progress BitVector Stopped → Type 0
LeavesValue stands_for true slot p = stands_for p.events × (p.ending ≡ Value slot.value)
LeavesValue stands_for false slot p = Interrupts stands_for slot.interrupt p

-- what holds where it is true
abbrev pub OnTrue : Bool → Type 0 → Type 0
OnTrue true P = P
OnTrue false P = Unit {0}

-- the action has a value of such a width
abbrev pub HasOperand : Declarations → Action → List BitVector → (ℕ → Type 0) → Type 0
HasOperand d a values Takes = (widths : List ℕ) × HaveWidths widths values × (width : ℕ) × ActionHasWidth d a widths width × (1 ≤ width) × Takes width

-- the actions have values that the operator takes
abbrev pub AreOperands : Declarations → TwoOp → Action → Action → List BitVector → Type 0
AreOperands d operator a b values =
    (widths : List ℕ) × HaveWidths widths values × (left : ℕ) × (right : ℕ) × (width : ℕ) × ActionHasWidth d a widths left × ActionHasWidth d b widths right × (1 ≤ left) × (1 ≤ right) × TwoHasWidth operator left right width

-- the action has a value, and the body can be evaluated where a name stands for it
abbrev pub HasBody : Declarations → Action → Action → List BitVector → Type 0
HasBody d a body values =
    (widths : List ℕ) × HaveWidths widths values × (bound : ℕ) × (width : ℕ) × ActionHasWidth d a widths bound × (1 ≤ bound) × ActionHasWidth d body (bound ∷ widths) width
