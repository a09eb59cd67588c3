use Rattle.stim_report.proofs.LineParts.{room_at, room_number, room_space, room_fired, room_values, room_end, whole_line}
use Rattle.stim_report.proofs.lines.push_line.Goals as goal

pub push-requires : goal.push-requires
push-requires c = room_at _ _ _ c.requires.room

pub push_number-requires : goal.push_number-requires
push_number-requires c = room_number _ _ _ c.requires.room c.push.ensures

pub push-requires-2 : goal.push-requires-2
push-requires-2 c = room_space _ _ _ c.requires.room c.push.ensures c.push_number.ensures

pub push_fired-requires-clause-room : goal.push_fired-requires-clause-room
push_fired-requires-clause-room c = rw (c.as_slice.ensures, c.as_slice-2.ensures) (room_fired _ _ _ c.requires.room c.push.ensures c.push_number.ensures c.push-2.ensures)

pub push_registers-requires-clause-room : goal.push_registers-requires-clause-room
push_registers-requires-clause-room c =
    let fired = rw (c.as_slice.ensures, c.as_slice-2.ensures) at c.push_fired.ensures in
    rw (c.as_slice-3.ensures, c.as_slice-4.ensures) (room_values _ _ _ c.requires.room c.push.ensures c.push_number.ensures c.push-2.ensures fired)

pub push-requires-3 : goal.push-requires-3
push-requires-3 c =
    let fired = rw (c.as_slice.ensures, c.as_slice-2.ensures) at c.push_fired.ensures in
    let values = rw (c.as_slice-3.ensures, c.as_slice-4.ensures) at c.push_registers.ensures in
    room_end _ _ _ c.requires.room c.push.ensures c.push_number.ensures c.push-2.ensures fired values

pub returns : goal.returns
returns c =
    let fired = rw (c.as_slice.ensures, c.as_slice-2.ensures) at c.push_fired.ensures in
    let values = rw (c.as_slice-3.ensures, c.as_slice-4.ensures) at c.push_registers.ensures in
    whole_line _ _ _ c.push.ensures c.push_number.ensures c.push-2.ensures fired values c.push-3.ensures
