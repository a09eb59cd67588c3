use Rattle.std.proofs.Common.{Some, ap, sym, ◌∙◌}
use Rattle.kw_bits.specs.Operators as op
use Rattle.koika_types.proofs.Stacks.{nothing-concat}
use Rattle.koika_lower.specs.inner.Packing.{so_far}
use Rattle.koika_lower.proofs.packing.with_low.Goals as goal

pub returns-in-None : goal.returns-in-None
returns-in-None c room = ap Some (sym (nothing-concat c.args.low) ∙ ap (λ o. op.concat (so_far o) c.args.low) (sym c.in-None.is))
