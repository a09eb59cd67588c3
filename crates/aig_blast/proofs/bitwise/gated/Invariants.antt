use Rattle.std.proofs.Common.{take}
use Rattle.aig_blast.specs.Steps as step
use Rattle.aig_blast.specs.Graphs.{value}
use Rattle.aig_blast.specs.Words.{MakesWord, word}
use Rattle.aig_blast.proofs.bitwise.gated.Given as goal

abbrev pub invariant-loop-x : goal.invariant-loop-x
invariant-loop-x l =
    MakesWord l.fn.graph l.graph l.made.items (λ i. step.gated (value i l.fn.graph l.condition) (take l.x-index (word i l.fn.graph l.a)))
