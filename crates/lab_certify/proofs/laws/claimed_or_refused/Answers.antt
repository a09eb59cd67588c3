use Rattle.lab_certify.proofs.OneClaim.{claims_or_not}
use Rattle.lab_certify.proofs.laws.claimed_or_refused.Goals as goal

pub returns : goal.returns
returns c = λ hosts name part source claim fault claims none. claims_or_not hosts source name part fault claim none claims
