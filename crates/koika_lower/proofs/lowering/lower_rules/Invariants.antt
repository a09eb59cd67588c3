use Rattle.std.proofs.Common.{take}
use Rattle.koika_lower.specs.inner.Rules.{AreRules}
use Rattle.koika_lower.proofs.lowering.lower_rules.Given as goal

abbrev pub invariant-loop-rule : goal.invariant-loop-rule
invariant-loop-rule l = AreRules l.fn.checked (take l.rule-index l.fn.checked.rules) l.all
