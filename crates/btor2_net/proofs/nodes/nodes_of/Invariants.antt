use Rattle.btor2_net.specs.inner.Nodes.{numbering_of}
use Rattle.btor2_net.proofs.Reading.{Reads}
use Rattle.btor2_net.proofs.nodes.nodes_of.Given as goal

abbrev pub invariant-loop-line : goal.invariant-loop-line
invariant-loop-line l = Reads l.lines l.line-index (numbering_of l.nodes) l.nodes.net
