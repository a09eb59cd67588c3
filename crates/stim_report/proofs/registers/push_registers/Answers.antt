use Rattle.stim_report.proofs.Pages.{room_byte, room_first, room_left, room_behind_byte, byte_first, goes_on}
use Rattle.stim_report.proofs.Values.{register_left, register_begins, value_width}
use Rattle.stim_report.proofs.registers.push_registers.Goals as goal

pub push-requires : goal.push-requires
push-requires c = room_byte _ (room_left c.requires.room (register_begins c.args.registers.now c.args.values.now c.loop-number.number c.loop-number-test.true c.requires.values c.loop-number.invariant))

pub push_value-requires-clause-width : goal.push_value-requires-clause-width
push_value-requires-clause-width c =
    value_width c.args.registers.now c.args.values.now c.loop-number.number c.index-registers-number.result c.index-values-number.result c.loop-number-test.true c.requires.values c.index-registers-number.is c.index-values-number.is

pub push_value-requires-clause-room : goal.push_value-requires-clause-room
push_value-requires-clause-room c =
    let left = register_left c.args.registers.now c.args.values.now c.loop-number.number c.index-registers-number.result c.index-values-number.result c.loop-number-test.true c.requires.values c.index-registers-number.is c.index-values-number.is c.loop-number.invariant in
    room_behind_byte c.push.ensures (room_first _ (room_left c.requires.room left))

pub loop-number-preserved : goal.loop-number-preserved
loop-number-preserved c =
    let left = register_left c.args.registers.now c.args.values.now c.loop-number.number c.index-registers-number.result c.index-values-number.result c.loop-number-test.true c.requires.values c.index-registers-number.is c.index-values-number.is c.loop-number.invariant in
    goes_on left (byte_first c.push.ensures c.push_value.ensures)
