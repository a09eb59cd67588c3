use Rattle.std.proofs.Common.{inl, inr}
use Rattle.std.proofs.lemmas.Result.{err_from_is_err_and}
use Rattle.front_end.proofs.Reading.{fault-of-part}
use Rattle.lab_certify.proofs.claimed.lower_light.Goals as goal

pub returns-clause-spelled : goal.returns-clause-spelled
returns-clause-spelled g c =
    let it = c.in_ok-spelled in
    rw c.in_ok-lowered.ensures.checked (record {
      stimulus = it.spelled.stimulus;
      spelled = it.ensures.spelled;
      light = c.in_ok-has_few_bits.ensures.light;
    })

pub returns-clause-typed : goal.returns-clause-typed
returns-clause-typed g c = rw c.in_ok-lowered.ensures.checked c.in_ok-spelled.ensures.typed

pub returns-in_err-spelled-clause-refused : goal.returns-in_err-spelled-clause-refused
returns-in_err-spelled-clause-refused g c =
    let p = err_from_is_err_and c.from_residual.result c.from_residual.ensures.1 in
    rw (p.1, p.2)
    (fault-of-part _ _ c.in_err-spelled.field-0.0 (λ fault h. inl h) c.in_err-spelled.ensures.refused)

pub returns-in_err-has_few_bits-clause-refused : goal.returns-in_err-has_few_bits-clause-refused
returns-in_err-has_few_bits-clause-refused g c =
    let p = err_from_is_err_and c.from_residual-in_err-has_few_bits.result
    c.from_residual-in_err-has_few_bits.ensures.1 in
    let it = c.in_ok-spelled in
    rw (p.1, p.2)
    (fault-of-part _ _ c.in_err-has_few_bits.field-0.0
    (λ fault h. inr (h.0, (it.spelled.design, it.spelled.stimulus, it.ensures.spelled, h.1)))
    c.in_err-has_few_bits.ensures.refused)
