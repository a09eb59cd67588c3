use Rattle.std.proofs.Common.{◌≡◌, [], ◌++◌, Ok, length, List}
use Rattle.kw_bits.specs.BitVector.{BitVector}
use Rattle.kw_base.specs.Texts.{lines_of}
use Rattle.stim_report.specs.inner.Given.{AreGiven}
use Rattle.stim_report.specs.Shapes.{widths_of}
use Rattle.stim_report.specs.Stimuli.{after, cycles_from}
use Rattle.stim_report.proofs.stimulus.read_stimulus.Given as goal

abbrev pub invariant-loop-line : goal.invariant-loop-line
invariant-loop-line l =
    record {
      cycles : after (cycles_from l.shape.inputs l.number (lines_of l.rest)) (λ (cycles : List (List BitVector)). Ok (l.stimulus.cycles ++ cycles)) ≡ cycles_from l.shape.inputs l.first_line (lines_of l.bytes);
      widths : l.stimulus.widths ≡ widths_of l.shape.inputs;
      count : length l.given.items ≡ length l.shape.inputs;
      given : AreGiven l.given.items [];
    }

abbrev pub decreases-loop-line : goal.decreases-loop-line
decreases-loop-line l = length l.rest
