use Rattle.btor2_text.specs.Cut.{words_of}
use Rattle.btor2_text.proofs.Arguments.{Reached}
use Rattle.btor2_text.proofs.argument.read_arguments.Given as goal

abbrev pub invariant-loop-kind : goal.invariant-loop-kind
invariant-loop-kind l = Reached l.kinds (words_of l.fn.bytes) l.arguments.items l.kind-index (words_of l.rest)
