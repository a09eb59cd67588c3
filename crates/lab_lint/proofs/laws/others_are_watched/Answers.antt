use Rattle.lab_lint.proofs.Watched.{others_are_watched}
use Rattle.lab_lint.proofs.laws.others_are_watched.Goals as goal

pub returns : goal.returns
returns c = others_are_watched
