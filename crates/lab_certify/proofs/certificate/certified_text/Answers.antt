use Rattle.std.proofs.Common.{[], inl, inr}
use Rattle.std.proofs.lemmas.Result.{err_from_is_err_and}
use Rattle.aig_blast.specs.Aigs.{AigParts}
use Rattle.front_end.proofs.Reading.{fault-of-part}
use Rattle.lab_certify.specs.inner.Read.{claim_of}
use Rattle.lab_certify.proofs.certificate.certified_text.Goals as goal

-- a circuit that isn't looked at
no_circuit : AigParts
no_circuit = record { inputs = []; latches = []; outputs = []; gates = [] }

pub returns-clause-text : goal.returns-clause-text
returns-clause-text g c =
    let it = c.in_ok-claimed in
    let parts = c.proof_parts-parts.ensures in (
      it.claimed.aig,
      record {
        claim = claim_of it.claimed;
        claims = rw (parts.invariant, parts.invariant_line) at it.ensures.claims;
        is = it.ensures.ready.valid;
        is_of = it.ensures.ready.circuit;
        taken = rw (parts.refutation, parts.refutation_line) at c.in_ok-check.ensures.taken;
        holds = c.in_ok-check.ensures.holds;
        told = c.in_ok-text.ensures;
      },
    )

pub returns-in_err-claimed-clause-refused : goal.returns-in_err-claimed-clause-refused
returns-in_err-claimed-clause-refused g c =
    let p = err_from_is_err_and c.from_residual.result c.from_residual.ensures.1 in
    let parts = c.proof_parts-parts.ensures in
    rw (p.1, p.2)
    (fault-of-part _ _ c.in_err-claimed.field-0.0
    (λ fault h. (no_circuit, inl (rw (parts.invariant, parts.invariant_line) at h))) c.in_err-claimed.ensures.refused)

pub returns-in_err-check-clause-refused : goal.returns-in_err-check-clause-refused
returns-in_err-check-clause-refused g c =
    let p = err_from_is_err_and c.from_residual-in_err-check.result c.from_residual-in_err-check.ensures.1 in
    let it = c.in_ok-claimed in
    let parts = c.proof_parts-parts.ensures in
    rw (p.1, p.2)
    (fault-of-part _ _ c.in_err-check.field-0.0
    (λ fault h. (
      it.claimed.aig,
      inr (
        claim_of it.claimed,
        rw (parts.invariant, parts.invariant_line) at it.ensures.claims,
        it.ensures.ready.valid,
        it.ensures.ready.circuit,
        rw (parts.refutation, parts.refutation_line) at h,
      ),
    ))
    c.in_err-check.ensures.fault)
