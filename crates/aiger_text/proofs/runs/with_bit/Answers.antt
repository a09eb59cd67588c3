use Rattle.std.proofs.Common.{arith}
use Rattle.aig_blast.proofs.SimValues.{with_bit-fits}
use Rattle.aiger_text.proofs.runs.with_bit.Goals as goal

pub overflow_add-result : goal.overflow_add-result
overflow_add-result c = omega (arith, with_bit-fits c.args.number c.args.width c.requires.width c.requires.number)
