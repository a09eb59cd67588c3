use Rattle.std.proofs.Common.{append_assoc}
use Rattle.wave_text.specs.Waves.{scope}
use Rattle.wave_text.proofs.declarations.push_scope.Goals as goal

pub returns : goal.returns
unfolding scope
returns c =
    rw (c.in_ok-push_line-2.ensures, c.in_ok-push_declarations.ensures, c.in_ok-push_line.ensures, c.in_ok-extend_from_slice-2.ensures.ok, c.in_ok-extend_from_slice.ensures.ok)
    (simp append_assoc)
