use Rattle.std.proofs.Common.{length}
use Rattle.kw_base.specs.Texts.{pieces_after}
use Rattle.kw_base.specs.declared.texts.Separator.TheVariants as at
use Rattle.stim_report.proofs.SourceInTurn.{HasPassed}
use Rattle.stim_report.proofs.source.source_parts.Given as goal

abbrev pub invariant-loop-rest : goal.invariant-loop-rest
invariant-loop-rest l = HasPassed l.bytes l.lines (pieces_after at.LineFeed l.rest)

abbrev pub decreases-loop-rest : goal.decreases-loop-rest
decreases-loop-rest l = length (pieces_after at.LineFeed l.rest)
