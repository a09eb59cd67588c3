use Rattle.lab_top.proofs.Claiming.{certificate-taken, claim-taken}
use Rattle.lab_top.proofs.laws.claims_are_taken.Goals as goal

pub returns-clause-obligations : goal.returns-clause-obligations
returns-clause-obligations c circuit hosts name source claim fault claims none =
    claim-taken circuit hosts name source claim fault claims none

pub returns-clause-certificates : goal.returns-clause-certificates
returns-clause-certificates c circuit hosts name source claim fault claims taken refused =
    certificate-taken circuit hosts name source claim fault claims taken refused
