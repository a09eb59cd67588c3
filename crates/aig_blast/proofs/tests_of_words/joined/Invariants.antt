use Rattle.aig_blast.specs.Steps.{joined_after}
use Rattle.aig_blast.specs.Graphs.{Makes, value}
use Rattle.aig_blast.specs.Words.{pair_value, word}
use Rattle.aig_blast.proofs.tests_of_words.joined.Given as goal

abbrev pub invariant-loop-x : goal.invariant-loop-x
invariant-loop-x l =
    Makes l.fn.graph l.graph l.all (λ i. joined_after (pair_value l.gate) (value i l.fn.graph l.start) (word i l.fn.graph l.a) l.x-index)
