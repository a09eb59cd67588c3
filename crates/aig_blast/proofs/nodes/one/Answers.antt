use Rattle.std.proofs.Common.{length, sym, ap, ◌∙◌}
use Rattle.kw_bits.specs.BitVector.{BitVector}
use Rattle.aig_blast.proofs.NodeWords.{MakesBits-width}
use Rattle.aig_blast.proofs.nodes.one.Goals as goal

pub add-requires-clause-width : goal.add-requires-clause-width
add-requires-clause-width c =
    sym (ap length c.deref.ensures.value ∙ MakesBits-width (c.in_ok-one-in-Inc.ensures c.args.graph.now) ∙ ap (λ (b : BitVector). b.width) c.one_of.ensures)

pub sub-requires-clause-width : goal.sub-requires-clause-width
sub-requires-clause-width c =
    sym (ap length c.deref-in-Dec.ensures.value ∙ MakesBits-width (c.in_ok-one-in-Dec.ensures c.args.graph.now) ∙ ap (λ (b : BitVector). b.width) c.one_of-in-Dec.ensures)
