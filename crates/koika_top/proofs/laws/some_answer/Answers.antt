use Rattle.koika_top.proofs.Answered.{some_answer}
use Rattle.koika_top.proofs.laws.some_answer.Goals as goal

pub returns : goal.returns
returns c = some_answer
