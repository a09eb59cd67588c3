-- What the calls return that read an AIGER text line by line. Contracts of private functions alone cite it.
use Rattle.std.specs.Prelude.{◌≡◌, ℕ, List, Option, Result, Ok, Err}
use Rattle.aiger_text.specs.Drafts.{Draft}
use Rattle.aiger_text.specs.declared.draft.Draft.{Draft as DraftFields}
use Rattle.kw_bits.specs.declared.failure.Failure.{Failure}
use Rattle.kw_bits.specs.declared.failure.Failure.TheVariants as failures

-- what a draft says, by its fields
abbrev pub parts_of : DraftFields → Draft
parts_of d = record {
  variables = d.variables;
  inputs = d.inputs.items;
  latches = d.latches.items;
  outputs = d.outputs.items;
  nexts = d.nexts.items;
  resets = d.resets.items;
  lits = d.lits.items;
  gates = d.gates.items;
}

-- the new value is the one that was wanted, or the fault is; no memory says nothing
abbrev pub Reads : {X : Type 0} → Result (Unit {0}) (Failure ℕ) → Result X ℕ → X → Type 0
Reads (Ok read) wanted new = wanted ≡ Ok new
Reads (Err (failures.Why fault)) wanted new = wanted ≡ Err fault
Reads (Err failures.NoMemory) wanted new = Unit {0}

abbrev pub ReadsLine : Result (Unit {0}) (Failure ℕ) → Result Draft ℕ → Draft → Type 0
ReadsLine r wanted new = Reads r wanted new

abbrev pub ReadsSymbol : Result (Unit {0}) (Failure ℕ) → Result (List (Option (List ℕ))) ℕ → List (Option (List ℕ)) → Type 0
ReadsSymbol r wanted new = Reads r wanted new
