use Rattle.stim_report.proofs.Hex.{room_for_digit, digit_written}
use Rattle.stim_report.proofs.registers.push_digits.Goals as goal

pub push-requires : goal.push-requires
push-requires c = room_for_digit c.loop-place.place c.args.number c.hex_digit.result c.loop-place-test.true c.hex_digit.ensures c.requires.room c.loop-place.invariant

pub loop-place-preserved : goal.loop-place-preserved
loop-place-preserved c = digit_written c.loop-place.place c.args.number c.hex_digit.result c.loop-place-test.true c.hex_digit.ensures c.loop-place.invariant c.push.ensures
