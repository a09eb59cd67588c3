-- What private functions alone cite of this crate's `Valid`.
use Rattle.std.specs.Prelude.{ℕ, ◌≤◌, List}
use Rattle.typed_core.specs.declared.action.Action.{Action}
use Rattle.typed_core.specs.Valid.{Declarations, ActionHasWidth}

-- the action may be an operand: it has a value
abbrev pub IsOperand : Declarations → Action → List ℕ → Type 0
IsOperand d action locals = (width : ℕ) × ActionHasWidth d action locals width × (1 ≤ width)
