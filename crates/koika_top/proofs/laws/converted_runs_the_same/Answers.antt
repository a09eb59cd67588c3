use Rattle.koika_top.proofs.Converted.{runs-the-same}
use Rattle.koika_top.proofs.laws.converted_runs_the_same.Goals as goal

pub returns : goal.returns
returns c = λ hosts source other cycles shown answer offered is rows. runs-the-same hosts offered source is.text other is.shows is.front is.stimulus is.short cycles shown answer rows
