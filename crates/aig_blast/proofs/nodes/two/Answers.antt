use Rattle.std.proofs.Common.{length, sym, ap, ◌∙◌, []}
use Rattle.std.proofs.lemmas.List.{length-map}
use Rattle.kw_bits.specs.Operators.{not}
use Rattle.net_graph.specs.Operators.{TakesTwo}
use Rattle.net_graph.specs.declared.node.NetTwo.TheVariants.{Implies}
use Rattle.aig_blast.specs.Graphs.{value}
use Rattle.aig_blast.proofs.NodeWords.{MakesBits-width}
use Rattle.aig_blast.proofs.nodes.two.Goals as goal

pub pairwise-requires-in-Implies-clause-width : goal.pairwise-requires-in-Implies-clause-width
unfolding TakesTwo not
pairwise-requires-in-Implies-clause-width c =
    let a = c.args.a.now in
    let b = c.args.b.now in
    let takes : TakesTwo Implies (length a) (length b) = rw c.in-Implies.is at c.requires.takes in
    ap length c.deref-in-Implies.ensures.value ∙ MakesBits-width (c.in_ok-opposite-in-Implies.ensures c.args.graph.now c.requires.a.are_lits) ∙ length-map a (value [] c.args.graph.now) ∙ takes.0 ∙ sym takes.1
