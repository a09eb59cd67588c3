use Rattle.std.proofs.Common.{◌≡◌, ◌+◌, [], length}
use Rattle.one_rule.specs.Stimulus.{IsLine}
use Rattle.kw_base.specs.Texts.{is_blank, words_from}
use Rattle.stim_report.specs.inner.Given.{AreGiven}
use Rattle.stim_report.specs.Shapes.{widths_of}
use Rattle.stim_report.specs.Stimuli.{line_from}
use Rattle.stim_report.proofs.stimulus.read_line.Given as goal

abbrev pub invariant-loop-word : goal.invariant-loop-word
invariant-loop-word l =
    record {
      line : line_from l.inputs l.number l.line.items (words_from is_blank l.column l.rest) ≡ line_from l.inputs l.number [] (words_from is_blank 1 l.bytes);
      column : l.column + length l.rest ≡ 1 + length l.bytes;
      count : length l.given.items ≡ length l.inputs;
      given : AreGiven l.given.items l.line.items;
      fits : IsLine (widths_of l.inputs) l.line.items;
    }

abbrev pub decreases-loop-word : goal.decreases-loop-word
decreases-loop-word l = length l.rest
