use Rattle.btor2_model.specs.inner.Known.{scope_of}
use Rattle.btor2_model.proofs.Walk.{Reached}
use Rattle.btor2_model.proofs.acceptance.declared.Given as goal

abbrev pub invariant-loop-line : goal.invariant-loop-line
invariant-loop-line l = Reached l.lines l.line-index (scope_of l.known)
