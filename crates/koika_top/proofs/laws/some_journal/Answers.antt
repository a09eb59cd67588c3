use Rattle.koika_top.proofs.Answered.{some_journal}
use Rattle.koika_top.proofs.laws.some_journal.Goals as goal

pub returns : goal.returns
returns c = some_journal
