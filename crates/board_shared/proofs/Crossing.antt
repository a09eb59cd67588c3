-- A shared board and its seats cross threads, as the core behind the lock and the tokens of the counts do.
use denote.Param.Send.{IsSend, IsSync, sendable}
use Rattle.std.proofs.Crossing.{crosses}
use Rattle.std.proofs.sync.ledger.Book.TheSendSync.{the_send as book_send}
use Rattle.std.proofs.sync.ledger.Share.TheSendSync.{the_send as share_send}
use Rattle.board_core.proofs.Crossing.{core_send}
use Rattle.board_shared.specs.contracts.count.SeatCount as count
use Rattle.board_shared.specs.contracts.locked.Locked as locked
use Rattle.board_shared.specs.contracts.shared.SharedBoard as board
use Rattle.board_shared.specs.contracts.shared.SharedSeat as seat

pub count_send : (T : _) (g : _) → IsSend (count.the_row T g)
count_send T g = search (share_send, sendable, crosses) depth 40 fits 8000

locked_send : (T : _) (g : _) → IsSend (locked.the_row T g)
locked_send T g = search (core_send, book_send, share_send, sendable, crosses) depth 40 fits 8000

pub board_send : (T : _) (g : _) → IsSend (board.the_row T g)
board_send T g = search (locked_send, sendable, crosses) depth 40 fits 8000

pub board_sync : (T : _) (g : _) → IsSync (board.the_row T g)
board_sync T g = search (locked_send, sendable, crosses) depth 40 fits 8000

pub seat_send : (l : _) (T : _) (R : _) (g : _) → IsSync R → IsSend (seat.the_row l T R g)
seat_send l T R g s = search (core_send, book_send, share_send, sendable, crosses) depth 40 fits 20000
