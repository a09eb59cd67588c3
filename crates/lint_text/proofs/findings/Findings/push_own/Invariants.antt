use Rattle.std.proofs.Common.{◌≡◌, ◌++◌}
use Rattle.std.specs.List.{flat_map, range_with_len}
use Rattle.lint_text.specs.Notes.{if_scheduled, own_notes}
use Rattle.lint_text.proofs.findings.Findings.push_own.Given as goal

abbrev pub invariant-loop-rule : goal.invariant-loop-rule
invariant-loop-rule l = l.notes ≡ l.fn.notes ++ flat_map (if_scheduled l.fn.design (own_notes l.fn.design)) (range_with_len 0 l.rule)
