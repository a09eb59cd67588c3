use Rattle.std.proofs.lemmas.Result.{err_from_is_err_and}
use Rattle.front_end.proofs.Reading.{fault-of-part}
use Rattle.lab_certify.specs.inner.Read.{claim_of}
use Rattle.lab_certify.proofs.certificate.obligation_text.Goals as goal

pub returns-clause-text : goal.returns-clause-text
returns-clause-text g c =
    let it = c.in_ok-claimed in
    let parts = c.certified_parts-parts.ensures in (
      it.claimed.aig,
      record {
        claim = claim_of it.claimed;
        claims = rw (parts.certificate, parts.certificate_line) at it.ensures.claims;
        is = it.ensures.ready.valid;
        is_of = it.ensures.ready.circuit;
        told = c.in_ok-text.ensures.text;
        promise = c.in_ok-text.ensures.promise;
      },
    )

pub returns-in_err-claimed-clause-refused : goal.returns-in_err-claimed-clause-refused
returns-in_err-claimed-clause-refused g c =
    let p = err_from_is_err_and c.from_residual.result c.from_residual.ensures.1 in
    let parts = c.certified_parts-parts.ensures in
    rw (p.1, p.2)
    (fault-of-part _ _ c.in_err-claimed.field-0.0
    (λ fault h. rw (parts.certificate, parts.certificate_line) at h) c.in_err-claimed.ensures.refused)
