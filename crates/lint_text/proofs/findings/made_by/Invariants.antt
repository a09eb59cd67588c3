use Rattle.std.proofs.Common.{◌≡◌, map}
use Rattle.std.specs.List.{range_with_len}
use Rattle.lab_lint.specs.Refusals as refusals
use Rattle.lint_text.proofs.findings.made_by.Given as goal

abbrev pub invariant-loop-register : goal.invariant-loop-register
invariant-loop-register l = l.made ≡ map (refusals.made l.fn.design l.fn.rule) (range_with_len 0 l.register)
