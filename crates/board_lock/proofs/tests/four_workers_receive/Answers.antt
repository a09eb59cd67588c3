use denote.Param.Send.{IsSend, sendable}
use Rattle.std.proofs.Crossing.{crosses}
use Rattle.board_lock.proofs.Crossing.{noting_send}
use Rattle.board_lock.proofs.tests.four_workers_receive.Goals as goal

pub work_seats-requires-send-S : goal.work_seats-requires-send-S
work_seats-requires-send-S g c κs = search (noting_send, sendable, crosses) depth 40 fits 8000
