use Rattle.std.proofs.Common.{append_assoc}
use Rattle.wave_text.proofs.declarations.push_declaration.Goals as goal

pub returns : goal.returns
returns c =
    rw (
      c.in_ok-push_line.ensures,
      c.in_ok-extend_from_slice-3.ensures.ok,
      c.in_ok-push-3.ensures.ok,
      c.in_ok-push_code.ensures,
      c.in_ok-push-2.ensures.ok,
      c.in_ok-push_number.ensures,
      c.from.ensures,
      c.in_ok-push.ensures.ok,
      c.in_ok-extend_from_slice-2.ensures.ok,
      c.type_name.ensures,
      c.in_ok-extend_from_slice.ensures.ok,
    )
    (simp append_assoc)
