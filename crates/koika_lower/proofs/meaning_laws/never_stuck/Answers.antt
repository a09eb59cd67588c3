use Rattle.koika_lower.proofs.GuardedBodies.{rule-unstuck}
use Rattle.koika_lower.proofs.meaning_laws.never_stuck.Goals as goal

pub returns : goal.returns
returns c = λ d number rule inputs ports is at wide fit. rule-unstuck d is inputs ports wide fit number rule at
