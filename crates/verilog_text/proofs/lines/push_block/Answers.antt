use Rattle.std.proofs.Common.{append_assoc}
use Rattle.verilog_text.specs.Texts.{block_text}
use Rattle.verilog_text.proofs.lines.push_block.Goals as goal

pub returns : goal.returns
unfolding block_text
returns c =
    rw (
      c.in_ok-extend_from_slice-4.ensures.ok,
      c.in_ok-push_edge.ensures,
      c.in_ok-extend_from_slice-3.ensures.ok,
      c.in_ok-extend_from_slice-2.ensures.ok,
      c.in_ok-extend_from_slice.ensures.ok,
      c.as_slice.ensures,
    )
    (simp append_assoc)
