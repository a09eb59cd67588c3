use Rattle.lab_core.proofs.Texts.{inputs_fit, registers_fit}
use Rattle.lab_core.proofs.why.push_cycle.Goals as goal

pub push_values-requires : goal.push_values-requires
push_values-requires c =
    rw (c.as_slice.ensures, c.as_slice-2.ensures) (inputs_fit c.args.design.now c.in_ok-shape.shape c.args.inputs.now c.in_ok-shape.ensures.shape c.requires.inputs)

pub push_values-requires-2 : goal.push_values-requires-2
push_values-requires-2 c =
    rw (c.as_slice-3.ensures, c.as_slice-4.ensures) (registers_fit c.args.design.now c.in_ok-shape.shape c.args.regs.now c.in_ok-shape.ensures.shape c.requires.registers)
