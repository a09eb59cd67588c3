use Rattle.std.proofs.Common.{◌≡◌, length}
use Rattle.aiger_text.specs.Cuts.{lines_of}
use Rattle.aiger_text.specs.Drafts.{draft_from, no_lines}
use Rattle.aiger_text.specs.inner.Steps.{parts_of}
use Rattle.aiger_text.proofs.read.read_lines.Given as goal

abbrev pub invariant-loop-line : goal.invariant-loop-line
invariant-loop-line l = draft_from l.header (parts_of l.draft) l.number (lines_of l.rest) ≡ draft_from l.header no_lines 2 (lines_of l.bytes)

abbrev pub decreases-loop-line : goal.decreases-loop-line
decreases-loop-line l = length l.rest
