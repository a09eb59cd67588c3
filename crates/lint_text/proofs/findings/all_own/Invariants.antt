use Rattle.std.proofs.Common.{◌≡◌, map}
use Rattle.std.specs.List.{range_with_len}
use Rattle.lab_lint.specs.Refusals as refusals
use Rattle.lab_lint.specs.Rules.{numbers}
use Rattle.lint_text.proofs.findings.all_own.Given as goal

abbrev pub invariant-loop-rule : goal.invariant-loop-rule
invariant-loop-rule l = l.all ≡ map (λ rule. map (refusals.own_writes l.fn.design rule) (numbers l.fn.design.registers)) (range_with_len 0 l.rule)
