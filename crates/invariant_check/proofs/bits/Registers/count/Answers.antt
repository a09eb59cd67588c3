use Rattle.std.proofs.Common.{length, ap, ◌∙◌, arith}
use Rattle.invariant_check.proofs.Reading.{length-firsts}
use Rattle.invariant_check.proofs.bits.Registers.count.Goals as goal

pub returns-in-Ok : goal.returns-in-Ok
returns-in-Ok c =
    let registers = c.args.self.now in
    let count = ap length registers.values ∙ length-firsts registers.latches.now in
    first_of (
      omega (arith, count, c.len.ensures, registers.firsts.ok.0, c.in-Ok.ensures),
      grind
          (arith, count, c.len.ensures, registers.firsts.ok.0, c.in-Ok.ensures),
    )
