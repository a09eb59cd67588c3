use Rattle.std.proofs.Common.{◌≡◌, ◌++◌}
use Rattle.std.specs.List.{flat_map, range_with_len}
use Rattle.lint_text.specs.Notes.{may_note}
use Rattle.lint_text.proofs.findings.Findings.push_may_between.Given as goal

abbrev pub invariant-loop-register : goal.invariant-loop-register
invariant-loop-register l = l.notes ≡ l.fn.notes ++ flat_map (may_note l.fn.design l.fn.rule l.fn.earlier) (range_with_len 0 l.register)
