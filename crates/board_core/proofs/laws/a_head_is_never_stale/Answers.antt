use Rattle.board_core.proofs.Plain.{head_never_stale}
use Rattle.board_core.proofs.laws.a_head_is_never_stale.Goals as goal

pub returns : goal.returns
returns c = head_never_stale
