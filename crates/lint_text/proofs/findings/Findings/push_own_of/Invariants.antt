use Rattle.std.proofs.Common.{◌≡◌, ◌++◌}
use Rattle.std.specs.List.{flat_map, range_with_len}
use Rattle.lint_text.specs.Notes.{own_note}
use Rattle.lint_text.proofs.findings.Findings.push_own_of.Given as goal

abbrev pub invariant-loop-register : goal.invariant-loop-register
invariant-loop-register l = l.notes ≡ l.fn.notes ++ flat_map (own_note l.fn.design l.fn.rule) (range_with_len 0 l.register)
