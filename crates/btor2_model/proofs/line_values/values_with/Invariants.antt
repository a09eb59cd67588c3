use Rattle.btor2_model.specs.inner.Known.{scope_of}
use Rattle.btor2_model.proofs.Evaluation.{Evaluated}
use Rattle.btor2_model.proofs.Filling.{Fills}
use Rattle.btor2_model.proofs.line_values.values_with.Given as goal

abbrev pub invariant-loop-line : goal.invariant-loop-line
invariant-loop-line l = record {
  evaluated : Evaluated l.lines l.inputs l.states l.line-index (scope_of l.known) l.values;
  fills : Fills l.lines l.inputs l.states l.line-index (scope_of l.known) l.values;
}
