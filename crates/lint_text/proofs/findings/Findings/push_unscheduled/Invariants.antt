use Rattle.std.proofs.Common.{◌≡◌, ◌++◌}
use Rattle.std.specs.List.{flat_map, range_with_len}
use Rattle.lint_text.specs.Notes.{unscheduled_note}
use Rattle.lint_text.proofs.findings.Findings.push_unscheduled.Given as goal

abbrev pub invariant-loop-rule : goal.invariant-loop-rule
invariant-loop-rule l = l.notes ≡ l.fn.notes ++ flat_map (unscheduled_note l.fn.design) (range_with_len 0 l.rule)
