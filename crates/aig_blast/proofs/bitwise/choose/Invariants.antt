use Rattle.std.proofs.Common.{take}
use Rattle.aig_blast.specs.Steps as step
use Rattle.aig_blast.specs.Graphs.{value}
use Rattle.aig_blast.specs.Words.{MakesWord, word}
use Rattle.aig_blast.proofs.bitwise.choose.Given as goal

abbrev pub invariant-loop-k : goal.invariant-loop-k
invariant-loop-k l =
    MakesWord l.fn.graph l.graph l.made.items (λ i. step.choose (value i l.fn.graph l.condition) (take l.k (word i l.fn.graph l.a)) (take l.k (word i l.fn.graph l.b)))
