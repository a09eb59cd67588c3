use Rattle.koika_top.proofs.JournaledAgain.{answers-again}
use Rattle.koika_top.proofs.laws.journaled_runs_the_same.Goals as goal

pub returns : goal.returns
returns c = λ hosts cycles workers source other answer offered some few is run. answers-again hosts offered cycles workers some few source other is answer run
