use Rattle.aig_blast.specs.Steps.{carry_after, sum_after}
use Rattle.aig_blast.specs.Graphs.{Makes, value}
use Rattle.aig_blast.specs.Words.{MakesWord, word}
use Rattle.aig_blast.proofs.adder.ripple.Given as goal

abbrev pub invariant-loop-k : goal.invariant-loop-k
invariant-loop-k l = record {
  sum : MakesWord l.fn.graph l.graph l.made.items (λ i. sum_after (value i l.fn.graph l.carry_in) (word i l.fn.graph l.a) (word i l.fn.graph l.b) l.k);
  carried : Makes l.fn.graph l.graph l.carry (λ i. carry_after (value i l.fn.graph l.carry_in) (word i l.fn.graph l.a) (word i l.fn.graph l.b) l.k);
}
