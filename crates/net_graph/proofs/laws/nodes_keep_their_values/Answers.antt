use Rattle.net_graph.proofs.Values.{values-by_operators, values-kept}
use Rattle.net_graph.proofs.laws.nodes_keep_their_values.Goals as goal

pub returns : goal.returns
returns c = record {
  kept = values-kept;
  by_operator = values-by_operators;
}
