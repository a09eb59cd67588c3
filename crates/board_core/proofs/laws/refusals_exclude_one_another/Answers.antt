use Rattle.board_core.proofs.Heads.{refusals_exclude}
use Rattle.board_core.proofs.laws.refusals_exclude_one_another.Goals as goal

pub returns : goal.returns
returns c = refusals_exclude
