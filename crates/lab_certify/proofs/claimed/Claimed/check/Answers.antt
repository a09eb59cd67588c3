use Rattle.std.proofs.lemmas.Result.{on_ok_weaker}
use Rattle.lab_certify.specs.inner.Read.{claim_of}
use Rattle.lab_certify.proofs.Bits.{outputs-within}
use Rattle.lab_certify.proofs.Holding.{holds-for-design}
use Rattle.lab_certify.proofs.claimed.Claimed.check.Goals as goal

pub certify-requires-clause-outputs : goal.certify-requires-clause-outputs
certify-requires-clause-outputs c =
    let it = c.args.self.now in
    rw c.as_slice-rules.ensures.value (outputs-within it.design it.aig c.requires.circuit it.rules.items c.requires.rules)

pub returns-clause-holds : goal.returns-clause-holds
returns-clause-holds c =
    let it = c.args.self.now in
    on_ok_weaker c.certify.result (λ kept. holds-for-design it.aig (claim_of it) c.requires.circuit kept)
    (rw c.as_slice-rules.ensures.value at c.certify.ensures.kept)
