use Rattle.std.proofs.Common.{◌≡◌, map, take}
use Rattle.typed_core.specs.declared.design.Rule.{Rule}
use Rattle.journal_check.proofs.names.names_of_rules.Given as goal

-- the names so far
abbrev pub invariant-loop-rule : goal.invariant-loop-rule
invariant-loop-rule l = l.names ≡ map (λ (rule : Rule). rule.name) (take l.rule-index l.design.rules)
