use Rattle.typed_core.proofs.Meaning.{DoTheSame-equal}
use Rattle.typed_core.proofs.laws.equal_designs_do_the_same.Goals as goal

pub returns : goal.returns
returns c t = DoTheSame-equal _
