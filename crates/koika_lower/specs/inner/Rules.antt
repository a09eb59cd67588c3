-- The rules of the core's design that a typed design is lowered to. All of it serves private functions alone.
use Rattle.std.specs.Prelude.{◌≡◌, List, [], length, None}
use Rattle.typed_core.specs.declared.design.Rule.{Rule as CoreRule}
use Rattle.koika_check.specs.Meaning.{meaning}
use Rattle.koika_check.specs.Typing.{Pairwise}
use Rattle.koika_check.specs.declared.checked.Checked.{Checked}
use Rattle.koika_check.specs.declared.checked.CheckedRule.{CheckedRule}
use Rattle.koika_lower.specs.inner.Simulation.{Lowers}

-- the rule has the name, and its action evaluates to what the body evaluates to, where all functions may be called
pub record IsRule (d : Checked) (r : CheckedRule) (c : CoreRule) : Type 0 where
  pub name : c.name ≡ r.name
  pub body : Lowers d (length d.functions) 0 [] [] None (λ s. meaning s r.body) (record { action = c.body; width = 0 })

abbrev pub AreRules : Checked → List CheckedRule → List CoreRule → Type 0
AreRules d = Pairwise (IsRule d)
