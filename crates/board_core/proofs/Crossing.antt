-- A core crosses threads, as its board and its externs do.
use denote.Param.Send.{IsSend, IsSync, sendable}
use Rattle.std.proofs.Crossing.{crosses}
use Rattle.typed_core.proofs.Crossing.{design_send, design_sync}
use Rattle.one_rule.proofs.Crossing.{externs_send, externs_sync}
use Rattle.board_core.specs.contracts.board.Core as core
use Rattle.board_core.specs.contracts.kept.KeptBoard as kept
use Rattle.board_core.specs.contracts.waiting.Waiting as waiting

waiting_send : IsSend waiting.the_row
waiting_send = search (design_send, design_sync, sendable, crosses) depth 40 fits 8000

waiting_sync : IsSync waiting.the_row
waiting_sync = search (design_send, design_sync, sendable, crosses) depth 40 fits 8000

kept_send : IsSend kept.the_row
kept_send = search (design_send, design_sync, waiting_send, sendable, crosses) depth 40 fits 8000

kept_sync : IsSync kept.the_row
kept_sync = search (design_send, design_sync, waiting_sync, sendable, crosses) depth 40 fits 8000

pub core_send : IsSend core.the_row
core_send = search (kept_send, externs_send, externs_sync, sendable, crosses) depth 40 fits 8000

pub core_sync : IsSync core.the_row
core_sync = search (kept_sync, externs_send, externs_sync, sendable, crosses) depth 40 fits 8000
