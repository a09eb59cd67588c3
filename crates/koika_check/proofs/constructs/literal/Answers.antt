use Rattle.std.proofs.Common.{ap}
use Rattle.koika_types.specs.declared.value.Value.TheVariants as value
use Rattle.koika_check.specs.Types.{TypedPart}
use Rattle.koika_check.specs.declared.typed.Typed.TheVariants as made
use Rattle.koika_check.proofs.Sequences.{typed_as}
use Rattle.koika_check.proofs.constructs.literal.Goals as goal

pub returns : goal.returns
returns c checker =
    let part = c.literal_part.ensures checker in
    (ap (λ (p : TypedPart). typed_as p (made.Constant (value.Number c.args.literal.bits))) part.0, part.1)
