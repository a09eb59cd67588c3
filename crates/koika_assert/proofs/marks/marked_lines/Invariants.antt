use Rattle.std.proofs.Common.{◌≡◌, take}
use Rattle.koika_assert.specs.Bads.{with_bads}
use Rattle.koika_assert.proofs.marks.marked_lines.Given as goal

abbrev pub invariant-loop-mark : goal.invariant-loop-mark
invariant-loop-mark l = l.all ≡ with_bads l.lines (take l.mark-index l.marks)
