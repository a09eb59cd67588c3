use Rattle.lab_top.proofs.SomeAnswer.{refused_or_spelled}
use Rattle.lab_top.proofs.laws.refused_or_spelled.Goals as goal

pub returns : goal.returns
returns c = refused_or_spelled
