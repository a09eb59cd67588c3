-- A fault is a number and the place of what is wrong. A call that reads a text returns a value, or a fault,
-- or that memory ran out.
use Rattle.std.specs.Prelude.{◌≡◌, ℕ, Result, Ok, Err}
use Rattle.kw_base.specs.declared.fault.Fault.{Fault}
use Rattle.kw_base.specs.declared.fault.Refusal.{Refusal}
use Rattle.kw_base.specs.declared.fault.Refusal.TheVariants as refusals
use Rattle.kw_base.specs.declared.place.Place.{Place}

-- the fault of a number at a place
abbrev pub fault_at : ℕ → Place → Fault
fault_at number place = record { number = number; line = place.line; column = place.column }

-- if the call returns a fault, it is one of these
abbrev pub IfFault : {X : Type 0} → Result X Refusal → (Fault → Type 0) → Type 0
IfFault (Ok x) P = Unit {0}
IfFault (Err (refusals.Fault fault)) P = P fault
IfFault (Err refusals.NoMemory) P = Unit {0}

-- the call returns a value and no fault, unless memory ran out
abbrev pub IsOkUnlessNoMemory : {X : Type 0} → Result X Refusal → (X → Type 0) → Type 0
IsOkUnlessNoMemory (Ok x) P = P x
IsOkUnlessNoMemory (Err (refusals.Fault fault)) P = ⊥
IsOkUnlessNoMemory (Err refusals.NoMemory) P = Unit {0}

-- the call returns this fault and no value, unless memory ran out
abbrev pub IsFaultUnlessNoMemory : {X : Type 0} → Result X Refusal → Fault → Type 0
IsFaultUnlessNoMemory (Ok x) fault = ⊥
IsFaultUnlessNoMemory (Err (refusals.Fault other)) fault = other ≡ fault
IsFaultUnlessNoMemory (Err refusals.NoMemory) fault = Unit {0}
