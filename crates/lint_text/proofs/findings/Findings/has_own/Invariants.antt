use Rattle.std.proofs.Common.{◌≡◌, false}
use Rattle.std.specs.List.{list_any, range_with_len}
use Rattle.lab_lint.specs.Refusals.{own_writes}
use Rattle.lab_lint.specs.Rules.{has_any}
use Rattle.lint_text.proofs.findings.Findings.has_own.Given as goal

abbrev pub invariant-loop-register : goal.invariant-loop-register
invariant-loop-register l = list_any (λ register. has_any (own_writes l.fn.design l.fn.rule register)) (range_with_len 0 l.register) ≡ false
