-- What the calls that read a stimulus return.
use Rattle.std.specs.Prelude.{◌≡◌, List, [], ◌∷◌, ◌++◌, Result, Ok, Err}
use Rattle.kw_base.specs.declared.fault.Fault.{Fault}
use Rattle.kw_base.specs.declared.fault.Refusal.{Refusal}
use Rattle.kw_base.specs.declared.fault.Refusal.TheVariants as refusals
use Rattle.one_rule.specs.Stimulus.{Assignment}

-- the line has the assignment that was wanted, or the fault is the one that was wanted; no memory says nothing
abbrev pub ReadsWord : Result (Unit {0}) Refusal → Result Assignment Fault → List Assignment → List Assignment → Type 0
ReadsWord (Ok read) wanted old new = (a : Assignment) × (wanted ≡ Ok a) × (new ≡ old ++ a ∷ [])
ReadsWord (Err (refusals.Fault fault)) wanted old new = wanted ≡ Err fault
ReadsWord (Err refusals.NoMemory) wanted old new = Unit {0}
