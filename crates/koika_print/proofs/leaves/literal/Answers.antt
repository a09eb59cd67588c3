use Rattle.std.proofs.Common.{rules, arith}
use Rattle.std.proofs.lemmas.Grind.{common_steps}
use Rattle.koika_print.proofs.Printing.{made}
use Rattle.koika_print.proofs.leaves.literal.Goals as goal

pub returns : goal.returns
returns c = made c.push.result _ _ _ (first_of (search rules, grind (arith, common_steps)))
