use Rattle.std.proofs.Common.{◌≡◌, map}
use Rattle.std.specs.List.{range_with_len}
use Rattle.lab_lint.specs.Order.{is_scheduled}
use Rattle.lint_text.proofs.findings.scheduled_rules.Given as goal

abbrev pub invariant-loop-rule : goal.invariant-loop-rule
invariant-loop-rule l = l.flags ≡ map (is_scheduled l.fn.design.nodes) (range_with_len 0 l.rule)
