use Rattle.koika_lower.proofs.GuardedBodies.{ends-typed}
use Rattle.koika_lower.proofs.meaning_laws.evaluates_to_its_type.Goals as goal

pub returns : goal.returns
returns c = λ d e types of values inputs ports is typed valid are wide fit. ends-typed d is inputs ports wide fit e types of values typed valid are
