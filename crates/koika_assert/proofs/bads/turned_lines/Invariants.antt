use Rattle.std.proofs.Common.{◌≡◌, take}
use Rattle.koika_assert.specs.Bads.{bads_beside_outputs}
use Rattle.koika_assert.proofs.bads.turned_lines.Given as goal

abbrev pub invariant-loop-line : goal.invariant-loop-line
invariant-loop-line l = l.shown ≡ bads_beside_outputs (take l.line-index l.lines)
