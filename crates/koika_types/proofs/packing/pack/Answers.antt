use Rattle.std.proofs.Common.{ap, sym, ◌∙◌}
use Rattle.koika_types.proofs.Sizes.{packed-HasSize}
use Rattle.koika_types.proofs.Stacks.{wide}
use Rattle.koika_types.proofs.packing.pack.Goals as goal

pub prove_eq-unreachable-requires : goal.prove_eq-unreachable-requires
prove_eq-unreachable-requires c =
    let size = packed-HasSize c.args.types.now c.width_of-width.ensures.table c.args.value.now c.args.ty.now c.requires.valid c.requires.of in
    c.if-prove_eq.true (c.width.ensures.width ∙ ap wide c.bits_of-bits.ensures ∙ size.0 ∙ sym c.width_of-width.ensures.width)
