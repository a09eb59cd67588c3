use Rattle.lab_certify.proofs.SomeClaim.{claim_or_fault}
use Rattle.lab_certify.proofs.laws.some_claim.Goals as goal

pub returns : goal.returns
returns c = λ hosts name part source. claim_or_fault hosts source name part
