use denote.Param.Send.{sendable}
use Rattle.std.proofs.Crossing.{crosses}
use Rattle.board_core.proofs.Crossing.{core_send, core_sync}
use Rattle.library_tests.proofs.boards.a_core_crosses_threads.Goals as goal

pub crosses_threads-requires-send-T : goal.crosses_threads-requires-send-T
crosses_threads-requires-send-T g c κs = search (core_send, sendable, crosses) depth 40 fits 8000

pub crosses_threads-requires-sync-T : goal.crosses_threads-requires-sync-T
crosses_threads-requires-sync-T g c κs = search (core_sync, sendable, crosses) depth 40 fits 8000
