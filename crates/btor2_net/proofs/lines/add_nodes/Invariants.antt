use Rattle.std.proofs.Common.{◌≡◌, [], drop, length}
use Rattle.net_graph.specs.Nets.{widths_of}
use Rattle.btor2_net.specs.inner.PageFields.{page_of}
use Rattle.btor2_net.specs.Pages.{with_nodes}
use Rattle.btor2_net.proofs.lines.add_nodes.Given as goal

abbrev pub invariant-loop-node : goal.invariant-loop-node
invariant-loop-node l = record {
  count : length l.ids.nodes.items ≡ l.node;
  inputs : l.ids.inputs ≡ l.initial.ids.inputs;
  states : l.ids.states ≡ l.initial.ids.states;
  nodes : with_nodes l.initial.ids.inputs.items l.initial.ids.states.items (widths_of l.net) (record { page = page_of l.page; ids = l.ids.nodes.items }) (drop l.node l.net)
      ≡ with_nodes l.initial.ids.inputs.items l.initial.ids.states.items (widths_of l.net) (record { page = page_of l.initial.page; ids = [] }) l.net;
}
