use Rattle.net_graph.proofs.OperatorWidths.{one_at-IsBits}
use Rattle.verilog_text.proofs.nodes.one_at.Goals as goal

pub unwrap-requires : goal.unwrap-requires
unwrap-requires c = c.new.ensures.some.1 (one_at-IsBits c.args.width c.requires.some c.requires.most)
