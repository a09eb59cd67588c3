use Rattle.aig_blast.specs.Steps.{carry_after}
use Rattle.aig_blast.specs.Graphs.{Makes, value}
use Rattle.aig_blast.specs.Words.{word}
use Rattle.aig_blast.proofs.adder.carries.Given as goal

abbrev pub invariant-loop-k : goal.invariant-loop-k
invariant-loop-k l =
    Makes l.fn.graph l.graph l.carry (λ i. carry_after (value i l.fn.graph l.carry_in) (word i l.fn.graph l.a) (word i l.fn.graph l.b) l.k)
