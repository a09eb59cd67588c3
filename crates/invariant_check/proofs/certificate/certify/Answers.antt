use Rattle.std.proofs.lemmas.Result.{on_ok_weaker}
use Rattle.invariant_check.proofs.certificate.certify.Goals as goal

pub returns-clause-kept : goal.returns-clause-kept
returns-clause-kept c =
    on_ok_weaker c.check_refutation.result (λ never. c.in_ok-formula.ensures.kept c.requires.first never) c.check_refutation.ensures.refuted
