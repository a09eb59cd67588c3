use Rattle.aig_blast.specs.Steps.{digits}
use Rattle.aig_blast.specs.Graphs.{Gates}
use Rattle.aig_blast.specs.Words.{MakesWord}
use Rattle.aig_blast.proofs.parts.constant.Given as goal

abbrev pub invariant-loop-k : goal.invariant-loop-k
invariant-loop-k l = (g : Gates) → MakesWord g g l.made.items (λ i. digits l.number l.k)
