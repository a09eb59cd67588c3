use Rattle.std.proofs.Common.{◌≡◌, ◌≤◌, List, ap, ◌∙◌, arith}
use Rattle.kw_bits.specs.BitVector.{BitVector}
use Rattle.one_rule.specs.Cycle.{system_of}
use Rattle.one_rule.specs.Run.{first_values, last_registers, run}
use Rattle.one_rule.specs.Stimulus.{inputs_of}
use Rattle.lab_top.specs.inner.Registers.{registers_after}
use Rattle.lab_top.proofs.Registers.{left-more}
use Rattle.lab_top.proofs.runs.registers_after.Goals as goal

pub loop-at-init : goal.loop-at-init
loop-at-init c = record { left = c.in_ok-regs.ensures.values; fits = c.in_ok-regs.ensures.fit; within = omega arith }

pub loop-at-preserved : goal.loop-at-preserved
loop-at-preserved c =
    let design = c.args.design.now in
    let inputs = inputs_of c.args.stimulus.now in
    let before = c.loop-at.invariant in
    let up : c.loop-at.at ≤ c.min-to.result = omega (arith, c.min-to.ensures, c.loop-at-test.true) in
    record {
      left = c.in_ok-regs-2.ensures.left
          ∙ ap (λ (regs : List BitVector). last_registers regs (run (system_of design) inputs regs c.loop-at.at c.min-to.result)) before.left
          ∙ left-more (system_of design) inputs (first_values design) c.loop-at.at c.min-to.result up;
      fits = c.in_ok-regs-2.ensures.fits;
      within = omega (arith, c.min-to.ensures);
    }

pub returns : goal.returns
returns c =
    let same : c.loop-at.at ≡ c.args.cycles = omega (arith, c.loop-at.invariant.within, c.loop-at-test.false) in
    c.loop-at.invariant.left ∙ ap (registers_after c.args.design.now (inputs_of c.args.stimulus.now)) same
