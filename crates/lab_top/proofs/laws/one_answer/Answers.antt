use Rattle.lab_top.specs.Words.{command_of}
use Rattle.lab_top.proofs.OneAnswer.{asked-same}
use Rattle.lab_top.proofs.laws.one_answer.Goals as goal

pub returns : goal.returns
returns c circuit hosts words source a b one h k = asked-same circuit hosts (command_of words) source a b one h k
