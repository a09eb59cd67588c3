-- The lock, a place at it and the seats cross threads, as the core in it does.
use denote.Param.Send.{IsSend, IsSync, sendable}
use denote.Param.SendFields.{declared_send}
use Rattle.std.proofs.Crossing.{Vec-send, crosses}
use Rattle.std.specs.contracts.option.Option as option
use Rattle.atomic_table.proofs.shared.Shared.TheSendSync.{the_sync}
use Rattle.atomic_table.proofs.send_lease.SendLease.TheSendSync.{the_sync as lease_sync}
use Rattle.atomic_table.proofs.shared.Seat.TheSendSync.{the_send}
use Rattle.atomic_table.specs.contracts.shared.Seat as seat
use Rattle.board_core.proofs.Crossing.{core_send}
use Rattle.board_lock.specs.contracts.home.Home as home
use Rattle.board_lock.specs.contracts.journal.NotingSeat as noting
use Rattle.board_lock.specs.contracts.lock.Lock as lock
use Rattle.board_lock.specs.contracts.notes.Note as note
use Rattle.board_lock.specs.contracts.room.Room as room
use Rattle.board_lock.specs.contracts.seat.LockSeat as lock_seat
use Rattle.board_lock.specs.contracts.view.View as view

pub lock_sync : IsSync lock.the_row
lock_sync = search (the_sync, lease_sync, core_send, sendable, crosses) depth 40 fits 8000

pub place_send : IsSend (seat.the_row (option.the_row home.the_row) view.the_row)
place_send = search (the_send, core_send, sendable, crosses) depth 40 fits 8000

pub seat_send : (l : _) (T : _) → IsSync T → IsSend (lock_seat.the_row l T)
seat_send l T s = search (lock_sync, place_send, sendable, crosses) depth 40 fits 8000

note_send : IsSend note.the_row
note_send = search (sendable, crosses) depth 40 fits 8000

room_send : IsSend room.the_row
room_send = search (sendable, crosses) depth 40 fits 8000

-- field by field, since the search for the whole of it breaks off
pub noting_send : (l : _) (T : _) → IsSync T → IsSend (noting.the_row l T)
noting_send l T s = declared_send (noting.the_type l T) (seat_send l T s, (Vec-send _ note_send, (search (room_send, sendable, crosses) depth 20, (search (sendable, crosses) depth 20, tt))))
