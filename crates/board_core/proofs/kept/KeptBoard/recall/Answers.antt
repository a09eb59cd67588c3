use Rattle.std.proofs.Common.{subst}
use Rattle.board_core.specs.Kept.{AtPlain}
use Rattle.board_core.proofs.kept.KeptBoard.recall.Goals as goal

pub returns : goal.returns
returns c =
    let s = c.self.invariant in
    subst AtPlain c.self.view_is (record { opening = s.opening; window = s.window; board = s.board; stands = s.stands; plain = s.plain })
