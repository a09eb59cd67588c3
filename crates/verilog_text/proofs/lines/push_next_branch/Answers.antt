use Rattle.std.proofs.Common.{append_assoc}
use Rattle.verilog_text.proofs.lines.push_next_branch.Goals as goal

pub returns : goal.returns
returns c =
    rw (
      c.in_ok-extend_from_slice-2.ensures.ok,
      c.in_ok-push_nexts.ensures,
      c.in_ok-extend_from_slice.ensures.ok,
      c.as_slice.ensures,
    )
    (simp append_assoc)
