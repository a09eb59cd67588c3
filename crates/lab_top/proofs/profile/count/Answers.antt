use Rattle.std.proofs.Common.{◌≡◌, ◌+◌, List, [], ◌∷◌, ◌++◌, length, ℕ, ap, sym, subst, ◌∙◌, arith}
use Rattle.one_rule.specs.Cycle.{cycle, system_of}
use Rattle.one_rule.specs.Run.{first_values}
use Rattle.one_rule.specs.Stimulus.{inputs_of}
use Rattle.typed_core.specs.Widths.{HaveWidths, register_widths}
use Rattle.lab_core.specs.Numbers.{numbers_of}
use Rattle.lab_core.specs.Trials.{trials}
use Rattle.lab_top.specs.Runs.{numbers_in}
use Rattle.lab_top.proofs.Counts.{numbers-cycles, numbers-first, numbers-next, numbers-rules}
use Rattle.lab_top.proofs.LabRuns.{core-fit, stimulus-fit, stimulus-wide}
use Rattle.lab_top.proofs.Registers.{left-fit, left-next}
use Rattle.lab_top.proofs.profile.count.Goals as goal

pub loop-before-init : goal.loop-before-init
loop-before-init c = record {
  numbers = numbers-first c.args.checked.now c.args.design.now c.requires.lowered (inputs_of c.args.stimulus.now) _ c.in_ok-profile.ensures;
  left = c.in_ok-regs.ensures.values;
}

pub add_cycle-requires-clause-inputs : goal.add_cycle-requires-clause-inputs
add_cycle-requires-clause-inputs c =
    subst (λ (ws : List ℕ). HaveWidths ws c.in_ok-inputs.inputs) (stimulus-wide c.args.checked.now c.args.design.now c.requires.lowered _ c.requires.stimulus) c.in_ok-inputs.ensures.fits

pub add_cycle-requires-clause-registers : goal.add_cycle-requires-clause-registers
add_cycle-requires-clause-registers c =
    let d = c.args.checked.now in
    let design = c.args.design.now in
    let inputs = inputs_of c.args.stimulus.now in
    let fit = stimulus-fit d c.args.stimulus.now c.requires.stimulus c.recall-2.ensures in
    subst (HaveWidths (register_widths design)) (sym c.loop-before.invariant.left)
    (left-fit design c.recall.ensures inputs (core-fit d design c.requires.lowered c.recall.ensures inputs fit) c.loop-before.before)

pub add_cycle-requires-clause-next : goal.add_cycle-requires-clause-next
add_cycle-requires-clause-next c = omega (arith, numbers-cycles c.args.checked.now (inputs_of c.args.stimulus.now) c.loop-before.before _ c.loop-before.invariant.numbers)

pub add_cycle-requires-clause-rules : goal.add_cycle-requires-clause-rules
add_cycle-requires-clause-rules c =
    numbers-rules c.args.checked.now c.args.design.now c.requires.lowered (inputs_of c.args.stimulus.now) c.loop-before.before _ c.loop-before.invariant.numbers

pub loop-before-preserved : goal.loop-before-preserved
loop-before-preserved c =
    let d = c.args.checked.now in
    let design = c.args.design.now in
    let inputs = inputs_of c.args.stimulus.now in
    let before = c.loop-before.invariant in
    let fit = stimulus-fit d c.args.stimulus.now c.requires.stimulus c.recall-2.ensures in
    let step = c.in_ok-add_cycle.ensures.numbers in
    let given : c.in_ok-inputs.inputs ≡ inputs (c.loop-before.before + 1) = c.in_ok-inputs.ensures.inputs in
    record {
      numbers = numbers-next d design c.requires.lowered c.recall.ensures inputs fit c.loop-before.before _ _ before.numbers
          (λ cycles is. step cycles is ∙ (λ i. numbers_of (length design.rules) (cycles ++ trials (system_of design) (given i) (before.left i) ∷ [])));
      left = c.in_ok-add_cycle.ensures.registers ∙ (λ i. (cycle (system_of design) (given i) (before.left i)).regs) ∙ left-next (system_of design) inputs (first_values design) c.loop-before.before;
    }

pub returns : goal.returns
returns c =
    let all : c.loop-before.before ≡ c.args.cycles = omega arith in
    c.loop-before.invariant.numbers ∙ ap (numbers_in c.args.checked.now (inputs_of c.args.stimulus.now)) all
