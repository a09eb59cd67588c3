use Rattle.std.proofs.Common.{◌≡◌, false}
use Rattle.std.specs.List.{list_any, range_with_len}
use Rattle.lab_lint.specs.Refusals.{clashing}
use Rattle.lab_lint.specs.Rules.{has_any}
use Rattle.lint_text.proofs.findings.Findings.may_clash.Given as goal

abbrev pub invariant-loop-register : goal.invariant-loop-register
invariant-loop-register l = list_any (λ register. has_any (clashing l.fn.design l.fn.rule l.fn.earlier register)) (range_with_len 0 l.register) ≡ false
