use Rattle.lab_top.proofs.SomeAnswer.{some_answer}
use Rattle.lab_top.proofs.laws.some_answer.Goals as goal

pub returns : goal.returns
returns c = some_answer
