use Rattle.std.proofs.Common.{ap, ◌∙◌}
use Rattle.std.specs.Prelude.{Some}
use Rattle.net_simplify.proofs.Implying.{same_bit}
use Rattle.net_simplify.proofs.implied.is_known.Goals as goal

pub returns-in-Some : goal.returns-in-Some
returns-in-Some c = λ t. c.in-Some.is ∙ ap Some (same_bit c.in-Some.known c.args.value t)
