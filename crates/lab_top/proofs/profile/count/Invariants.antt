use Rattle.std.proofs.Common.{◌≡◌}
use Rattle.one_rule.specs.Stimulus.{inputs_of}
use Rattle.lab_top.specs.Runs.{numbers_in}
use Rattle.lab_top.specs.inner.Registers.{registers_after}
use Rattle.lab_top.proofs.profile.count.Given as goal

-- the numbers and the registers after the cycles so far
abbrev pub invariant-loop-before : goal.invariant-loop-before
invariant-loop-before l =
    record {
      numbers : l.profile ≡ numbers_in l.checked (inputs_of l.stimulus) l.before;
      left : l.regs ≡ registers_after l.design (inputs_of l.stimulus) l.before;
    }
