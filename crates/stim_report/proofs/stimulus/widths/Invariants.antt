use Rattle.std.proofs.Common.{◌≡◌, take}
use Rattle.stim_report.specs.Shapes.{widths_of}
use Rattle.stim_report.proofs.stimulus.widths.Given as goal

abbrev pub invariant-loop-input : goal.invariant-loop-input
invariant-loop-input l = l.widths.items ≡ widths_of (take l.input-index l.inputs)
