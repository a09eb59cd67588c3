use Rattle.std.proofs.Common.{length}
use Rattle.kw_base.specs.Texts.{pieces_after}
use Rattle.kw_base.specs.declared.texts.Separator.TheVariants as at
use Rattle.btor2_text.specs.Cut.{lines_of}
use Rattle.btor2_text.proofs.Readings.{ReadTo}
use Rattle.btor2_text.proofs.reader.read_lines.Given as goal

abbrev pub invariant-loop-rest : goal.invariant-loop-rest
invariant-loop-rest l = ReadTo (lines_of l.fn.text) l.lines l.number (pieces_after at.LineFeed l.rest)

abbrev pub decreases-loop-rest : goal.decreases-loop-rest
decreases-loop-rest l = length (pieces_after at.LineFeed l.rest)
