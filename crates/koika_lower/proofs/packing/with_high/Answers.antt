use Rattle.std.proofs.Common.{Some, ap, sym, ◌∙◌}
use Rattle.kw_bits.specs.Operators as op
use Rattle.koika_types.proofs.Stacks.{concat-nothing}
use Rattle.koika_lower.specs.inner.Packing.{so_far}
use Rattle.koika_lower.proofs.packing.with_high.Goals as goal

pub returns-in-None : goal.returns-in-None
returns-in-None c room = ap Some (sym (concat-nothing c.args.high) ∙ ap (λ o. op.concat c.args.high (so_far o)) (sym c.in-None.is))
