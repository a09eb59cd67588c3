use Rattle.koika_top.proofs.OneOfWords.{one_answer}
use Rattle.koika_top.proofs.laws.one_answer.Goals as goal

pub returns : goal.returns
returns c = one_answer
