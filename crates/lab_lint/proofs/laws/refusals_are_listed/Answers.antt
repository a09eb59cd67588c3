use Rattle.lab_lint.proofs.Trials.{clashes_are_listed, owns_are_listed}
use Rattle.lab_lint.proofs.laws.refusals_are_listed.Goals as goal

pub returns : goal.returns
returns c = record { own = owns_are_listed; clash = clashes_are_listed }
