use Rattle.std.proofs.Common.{length}
use Rattle.journal_check.specs.inner.Steps.{HasRead}
use Rattle.journal_check.proofs.reader.read_lines.Given as goal

-- the lines so far are those of the journal
abbrev pub invariant-loop-line : goal.invariant-loop-line
invariant-loop-line l = HasRead l.reader.names.design.now l.reader.stimulus.now l.first_line l.bytes l.rest l.number l.journal

abbrev pub decreases-loop-line : goal.decreases-loop-line
decreases-loop-line l = length l.rest
