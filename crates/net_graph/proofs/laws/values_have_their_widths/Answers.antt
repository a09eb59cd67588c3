use Rattle.net_graph.proofs.Values.{values-widths}
use Rattle.net_graph.proofs.laws.values_have_their_widths.Goals as goal

pub returns : goal.returns
returns c = values-widths
