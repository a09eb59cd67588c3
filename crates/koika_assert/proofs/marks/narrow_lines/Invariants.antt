use Rattle.std.proofs.Common.{◌≡◌, filter, take}
use Rattle.koika_assert.specs.inner.Widths.{is_narrow}
use Rattle.koika_assert.proofs.marks.narrow_lines.Given as goal

abbrev pub invariant-loop-line : goal.invariant-loop-line
invariant-loop-line l = l.narrow ≡ filter (is_narrow l.lines) (take l.line-index l.lines)
