use Rattle.board_core.proofs.Heads.{head_comes_first, head_settles}
use Rattle.board_core.proofs.laws.a_head_settles_by_its_job.Goals as goal

pub returns : goal.returns
returns c = record { first = head_comes_first; settles = head_settles }
