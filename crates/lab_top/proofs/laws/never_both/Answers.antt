use Rattle.lab_top.proofs.Taking.{never_both}
use Rattle.lab_top.proofs.laws.never_both.Goals as goal

pub returns : goal.returns
returns c circuit hosts command source design stimulus fault takes spelled is =
    never_both circuit hosts source design stimulus command fault takes spelled is
