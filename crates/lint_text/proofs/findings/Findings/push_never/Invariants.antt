use Rattle.std.proofs.Common.{◌≡◌, ◌++◌}
use Rattle.std.specs.List.{flat_map, range_with_len}
use Rattle.lint_text.specs.Findings.{is_set}
use Rattle.lint_text.specs.Notes.{if_scheduled, never_note}
use Rattle.lint_text.proofs.findings.Findings.push_never.Given as goal

abbrev pub invariant-loop-rule : goal.invariant-loop-rule
invariant-loop-rule l = l.notes ≡ l.fn.notes ++ flat_map (if_scheduled l.fn.design (never_note (is_set l.fn.self.never))) (range_with_len 0 l.rule)
