use Rattle.std.proofs.Common.{arith}
use Rattle.stim_report.proofs.Values.{registers_bound}
use Rattle.stim_report.proofs.room.room_of_registers.Goals as goal

pub loop-register-preserved : goal.loop-register-preserved
loop-register-preserved c = λ values.
    let l = c.loop-register in
    omega (arith, l.invariant values, registers_bound c.args.registers.now values l.register-index c.register-item.result c.loop-register-test.true c.register-item.is, c.in_ok-room.ensures.1, c.in_ok-room_of_register.ensures)
