use Rattle.lab_top.specs.Words.{command_of}
use Rattle.lab_top.proofs.OneAnswer.{asked-like}
use Rattle.lab_top.proofs.laws.one_status.Goals as goal

pub returns : goal.returns
returns c circuit hosts words source a b h k = asked-like circuit hosts (command_of words) source a b h k
