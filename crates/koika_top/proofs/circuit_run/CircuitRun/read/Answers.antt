use Rattle.std.proofs.Common.{inl, inr, ⊎_elim}
use Rattle.std.proofs.lemmas.Result.{err_from_is_err_and}
use Rattle.koika_top.proofs.CircuitTexts.{fault-of-part, refused-later}
use Rattle.koika_top.proofs.circuit_run.CircuitRun.read.Goals as goal

pub returns-in_err-text-clause-refused : goal.returns-in_err-text-clause-refused
returns-in_err-text-clause-refused c =
    let p = err_from_is_err_and c.from_residual.result c.from_residual.ensures.1 in
    rw (p.1, p.2)
    (fault-of-part _ _ c.in_err-text.field-0.0 (λ fault h. ⊎_elim (λ a. inr (inl a)) (λ b. inr (inr (inl b))) h) c.in_err-text.ensures.refused)

pub returns-clause-refused : goal.returns-clause-refused
returns-clause-refused c = refused-later c.args.cycles c.args.source.now _ c.run_of.ensures.refused
