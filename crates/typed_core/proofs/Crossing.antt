-- A design crosses threads. Its actions hold themselves, so that they cross is a fact of the knot; all else crosses as its
-- fields do.
use denote.Param.Send.{IsSend, IsSync, sendable}
use Rattle.std.proofs.Crossing.{crosses}
use Rattle.typed_core.proofs.action.Action.TheLaws.TheKnot.{send-Action, sync-Action}
use Rattle.typed_core.specs.contracts.design.Design as design

pub design_send : IsSend design.the_row
design_send = search (send-Action, sendable, crosses) depth 40 fits 8000

pub design_sync : IsSync design.the_row
design_sync = search (sync-Action, sendable, crosses) depth 40 fits 8000
