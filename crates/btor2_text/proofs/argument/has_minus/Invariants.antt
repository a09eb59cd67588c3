use Rattle.btor2_text.specs.Cut.{words_of}
use Rattle.btor2_text.proofs.Arguments.{SoFar}
use Rattle.btor2_text.proofs.argument.has_minus.Given as goal

abbrev pub invariant-loop-kind : goal.invariant-loop-kind
invariant-loop-kind l = SoFar l.kinds (words_of l.fn.bytes) l.kind-index (words_of l.rest)
