use Rattle.std.proofs.Common.{inl, inr}
use Rattle.std.proofs.lemmas.Result.{err_from_is_err_and}
use Rattle.front_end.proofs.Reading.{fault-of-part}
use Rattle.lab_top.proofs.why.WhyRun.read.Goals as goal

pub returns-in_err-lowered-clause-refused : goal.returns-in_err-lowered-clause-refused
returns-in_err-lowered-clause-refused g c =
    let p = err_from_is_err_and c.from_residual.result c.from_residual.ensures.1 in
    rw (p.1, p.2) (fault-of-part _ _ c.in_err-lowered.field-0.0 (λ fault h. inl (inr (rw c.last_of.ensures at h))) c.in_err-lowered.ensures.refused)
