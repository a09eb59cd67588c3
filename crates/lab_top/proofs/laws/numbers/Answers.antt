use Rattle.std.proofs.Common.{refl}
use Rattle.lab_top.proofs.laws.numbers.Goals as goal

pub returns : goal.returns
returns c = record { no_such_rule = refl }
