use Rattle.std.proofs.Common.{subst}
use Rattle.lab_certify.specs.Certificates.{KeepsPromise}
use Rattle.lab_certify.specs.inner.Read.{claim_of}
use Rattle.lab_certify.proofs.Bits.{outputs-within}
use Rattle.lab_certify.proofs.claimed.Claimed.obligation_text.Goals as goal

pub obligation-requires-clause-outputs : goal.obligation-requires-clause-outputs
obligation-requires-clause-outputs c =
    let it = c.args.self.now in
    rw c.as_slice.ensures.value (outputs-within it.design it.aig c.requires.circuit it.rules.items c.requires.rules)

pub returns-clause-promise : goal.returns-clause-promise
returns-clause-promise c =
    let it = c.args.self.now in
    let made = c.in_ok-formula.ensures in
    subst (KeepsPromise it.aig (claim_of it)) (rw c.as_slice.ensures.value at made.clauses)
    (record {
      says = rw c.as_slice.ensures.value at made.says;
      empty = λ is. rw c.as_slice.ensures.value at (made.empty c.requires.literals is);
      named = made.named;
      within = c.in_ok-push_obligation.ensures.within;
    })
