use Rattle.std.proofs.Common.{◌≡◌, None, take}
use Rattle.std.specs.List.{find}
use Rattle.btor2_model.specs.Acceptance.{lacks_next}
use Rattle.btor2_model.specs.inner.Known.{scope_of}
use Rattle.btor2_model.proofs.acceptance.no_state_lacks_next.Given as goal

abbrev pub invariant-loop-line : goal.invariant-loop-line
invariant-loop-line l = find (lacks_next (scope_of l.known)) (take l.line-index l.lines) ≡ None
