-- What holds of what lines of an AIGER text say. Contracts of private functions alone cite it.
use Rattle.std.specs.Prelude.{◌≡◌, ◌≢◌, ℕ, ◌+◌, false, IfSome, List, [], ◌∷◌, Option, length}
use Rattle.std.specs.List.{AllByRecursion}
use Rattle.aig_blast.specs.Aigs.{IsSymbol}
use Rattle.aiger_text.specs.Drafts.{Draft}
use Rattle.aiger_text.specs.Places.{is_defined}

-- each symbol can be written at the end of a line
abbrev pub AreSymbols : List (Option (List ℕ)) → Type 0
AreSymbols symbols = AllByRecursion (λ (symbol : Option (List ℕ)). IfSome symbol IsSymbol) symbols

-- variables that are each defined once, none of them variable 0
abbrev pub AreApart : List ℕ → Type 0
AreApart [] = Unit {0}
AreApart (variable ∷ variables) = (variable ≢ 0) × ((is_defined variables variable ≡ false) × AreApart variables)

-- each latch has a next literal and a reset, and each output a literal; each input, latch and gate defines a variable,
-- which no other one defines
pub record IsDraft (d : Draft) : Type 0 where
  pub inputs : AreSymbols d.inputs
  pub latches : AreSymbols d.latches
  pub outputs : AreSymbols d.outputs
  pub nexts : length d.nexts ≡ length d.latches
  pub resets : length d.resets ≡ length d.latches
  pub lits : length d.lits ≡ length d.outputs
  pub variables : length d.variables ≡ length d.inputs + length d.latches + length d.gates
  pub apart : AreApart d.variables
