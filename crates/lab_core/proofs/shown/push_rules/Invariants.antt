use Rattle.std.proofs.Common.{◌≡◌, ◌++◌, drop}
use Rattle.lab_core.specs.Profiles.{rules_text}
use Rattle.lab_core.proofs.shown.push_rules.Given as goal

-- what is left to write
abbrev pub invariant-loop-rule : goal.invariant-loop-rule
invariant-loop-rule l = l.text ++ rules_text l.design l.rule (drop l.rule l.rules) ≡ l.fn.text ++ rules_text l.design 0 l.rules
