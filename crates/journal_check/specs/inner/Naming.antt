-- How a reader keeps the names of a design: all of them in order, where no two are one.
use Rattle.std.specs.Prelude.{◌≡◌, ℕ, List, Option, IfSome}
use Rattle.typed_core.specs.declared.design.Parts.{Parts}
use Rattle.journal_check.specs.Tokens.{register_names, rule_names}

abbrev pub NamesOf : List (List ℕ) → Option (List (List ℕ)) → Type 0
NamesOf names kept = IfSome kept (λ (all : List (List ℕ)). all ≡ names)

pub record Knows (design : Parts) (kept_registers kept_rules : Option (List (List ℕ))) : Type 0 where
  pub registers : NamesOf (register_names design) kept_registers
  pub rules : NamesOf (rule_names design) kept_rules
