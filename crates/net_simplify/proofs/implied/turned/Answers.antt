use Rattle.std.proofs.Common.{Bool, subst}
use Rattle.std.specs.Prelude.{Option}
use Rattle.net_simplify.specs.inner.Forms.{IsKnownBit}
use Rattle.net_simplify.proofs.Implying.{not_known}
use Rattle.net_simplify.proofs.implied.turned.Goals as goal

pub returns-in-Some : goal.returns-in-Some
returns-in-Some c = λ x known. not_known x c.in-Some.known (subst (λ (o : Option Bool). IsKnownBit o x) c.in-Some.is known)
