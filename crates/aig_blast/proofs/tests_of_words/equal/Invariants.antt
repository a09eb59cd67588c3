use Rattle.aig_blast.specs.inner.Steps.{equal_after}
use Rattle.aig_blast.specs.Graphs.{Makes}
use Rattle.aig_blast.specs.Words.{word}
use Rattle.aig_blast.proofs.tests_of_words.equal.Given as goal

abbrev pub invariant-loop-k : goal.invariant-loop-k
invariant-loop-k l =
    Makes l.fn.graph l.graph l.same (λ i. equal_after (word i l.fn.graph l.a) (word i l.fn.graph l.b) l.k)
