use Rattle.invariant_check.proofs.Runs.{kept_in_every_run}
use Rattle.invariant_check.proofs.laws.a_kept_invariant_holds_in_every_run.Goals as goal

pub returns : goal.returns
returns c = λ a invariant claimed formula valid holds says never. kept_in_every_run a invariant claimed formula valid
    says never holds
