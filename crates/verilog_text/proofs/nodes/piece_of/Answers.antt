use Rattle.std.proofs.Common.{[], arith}
use Rattle.net_graph.specs.Nets.{op_width}
use Rattle.net_graph.proofs.OneByOne.{length-one_by_one}
use Rattle.verilog_text.proofs.nodes.piece_of.Goals as goal

pub width-requires : goal.width-requires
width-requires c = let here = rw c.in-One.is at c.requires.stands in
    omega (arith, length-one_by_one op_width [] c.args.net.now, here)

pub width-requires-in-Slice : goal.width-requires-in-Slice
width-requires-in-Slice c = let here = rw c.in-Slice.is at c.requires.stands in
    omega (arith, length-one_by_one op_width [] c.args.net.now, here.0)

pub width-requires-in-Sext : goal.width-requires-in-Sext
width-requires-in-Sext c = let here = rw c.in-Sext.is at c.requires.stands in
    omega (arith, length-one_by_one op_width [] c.args.net.now, here.0)

pub slice_of-requires-clause-constant : goal.slice_of-requires-clause-constant
slice_of-requires-clause-constant c =
    rw (c.operand_at-in-Slice.ensures, c.width-in-Slice.ensures.width) (c.requires.constants c.in-Slice.a)

pub sext_of-requires-clause-constant : goal.sext_of-requires-clause-constant
sext_of-requires-clause-constant c =
    rw (c.operand_at-in-Sext.ensures, c.width-in-Sext.ensures.width) (c.requires.constants c.in-Sext.a)
