use Rattle.std.proofs.Common.{◌≡◌, ◌++◌}
use Rattle.std.specs.List.{flat_map, range_with_len}
use Rattle.lint_text.specs.Notes.{unused_note}
use Rattle.lint_text.proofs.findings.Findings.push_unused.Given as goal

abbrev pub invariant-loop-number : goal.invariant-loop-number
invariant-loop-number l = l.notes ≡ l.fn.notes ++ flat_map (unused_note l.fn.design l.fn.of) (range_with_len 0 l.number)
