use Rattle.std.proofs.Common.{◌≡◌, ◌++◌, take}
use Rattle.std.specs.List.{flat_map}
use Rattle.lint_text.specs.Findings.{order_of}
use Rattle.lint_text.specs.Notes.{assert_notes}
use Rattle.lint_text.proofs.findings.Findings.push_asserts.Given as goal

abbrev pub invariant-loop-mark : goal.invariant-loop-mark
invariant-loop-mark l = l.notes ≡ l.fn.notes ++ flat_map (assert_notes (order_of l.fn.self) l.fn.design) (take l.mark-index l.marks)
