use Rattle.std.proofs.Common.{◌≡◌, false}
use Rattle.std.specs.Prelude.{◌&&◌}
use Rattle.std.specs.List.{list_any, range_with_len}
use Rattle.lab_lint.specs.Rules.{may_clash}
use Rattle.lint_text.specs.Findings.{order_of}
use Rattle.lint_text.proofs.findings.Findings.may_be_clashed.Given as goal

abbrev pub invariant-loop-earlier : goal.invariant-loop-earlier
invariant-loop-earlier l = list_any (λ earlier. (order_of l.fn.self).may_precede earlier l.fn.rule && may_clash l.fn.design l.fn.rule earlier) (range_with_len 0 l.earlier) ≡ false
