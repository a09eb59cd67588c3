use Rattle.std.proofs.Common.{take}
use Rattle.net_graph.specs.Values.{values_of}
use Rattle.aig_blast.specs.inner.Nodes.{MakesNodes}
use Rattle.aig_blast.proofs.nodes.node_words.Given as goal

-- the words so far are those of the first nodes
abbrev pub invariant-loop-op : goal.invariant-loop-op
invariant-loop-op l = MakesNodes l.fn.graph l.graph l.inputs l.states l.words (λ s. take l.op-index (values_of s l.net))
