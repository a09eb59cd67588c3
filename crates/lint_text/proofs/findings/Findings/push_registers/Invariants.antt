use Rattle.std.proofs.Common.{◌≡◌, ◌++◌}
use Rattle.std.specs.List.{flat_map, range_with_len}
use Rattle.lint_text.specs.Notes.{register_notes}
use Rattle.lint_text.proofs.findings.Findings.push_registers.Given as goal

abbrev pub invariant-loop-register : goal.invariant-loop-register
invariant-loop-register l = l.notes ≡ l.fn.notes ++ flat_map (register_notes l.fn.design) (range_with_len 0 l.register)
