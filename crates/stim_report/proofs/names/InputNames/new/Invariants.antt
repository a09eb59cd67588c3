use Rattle.std.proofs.Common.{◌≤◌, length, take}
use Rattle.stim_report.specs.inner.FirstNames.{AreFirst}
use Rattle.stim_report.proofs.names.InputNames.new.Given as goal

abbrev pub invariant-loop-number : goal.invariant-loop-number
invariant-loop-number l = (length l.names ≤ l.number) × AreFirst l.names l.firsts.items (take l.number l.inputs)
