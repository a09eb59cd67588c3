use denote.Param.Send.{sendable}
use Rattle.std.proofs.Crossing.{crosses}
use Rattle.board_shared.proofs.Crossing.{seat_send}
use Rattle.board_shared.proofs.tests.take_turns_at.Goals as goal

pub map_vec-requires-send-J : goal.map_vec-requires-send-J
map_vec-requires-send-J g c κs = search (seat_send, sendable, crosses) depth 40 fits 8000
