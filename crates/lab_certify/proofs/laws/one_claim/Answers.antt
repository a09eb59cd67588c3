use Rattle.lab_certify.proofs.OneClaim.{claims-same}
use Rattle.lab_certify.proofs.laws.one_claim.Goals as goal

pub returns : goal.returns
returns c = λ hosts name part source a b of_a of_b. claims-same hosts source name part a b of_a of_b
