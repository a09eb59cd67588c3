use Rattle.std.proofs.Common.{◌≡◌, take}
use Rattle.one_rule.specs.Stimulus.{inputs_by}
use Rattle.one_rule.proofs.stimulus.line.inputs_by.Given as goal

-- the values so far are those of the inputs so far
abbrev pub invariant-loop-input : goal.invariant-loop-input
invariant-loop-input l = l.inputs ≡ inputs_by (take l.input l.widths) l.line
