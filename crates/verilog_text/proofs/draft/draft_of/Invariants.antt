use Rattle.std.proofs.Common.{◌≡◌, drop, length}
use Rattle.net_graph.specs.Nets.{widths_of}
use Rattle.verilog_text.specs.inner.Making.{ConstantsFit, blank, with_nodes}
use Rattle.verilog_text.proofs.draft.draft_of.Given as goal

abbrev pub invariant-loop-id : goal.invariant-loop-id
invariant-loop-id l = record {
  rest : with_nodes (widths_of l.net) l.draft (drop l.id l.net) ≡ with_nodes (widths_of l.net) blank l.net;
  count : length l.draft.operands ≡ l.id;
  constants : ConstantsFit (widths_of l.net) l.draft.operands;
}
