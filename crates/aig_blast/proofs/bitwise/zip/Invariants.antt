use Rattle.std.proofs.Common.{take}
use Rattle.aig_blast.specs.BitLists.{zip_with}
use Rattle.aig_blast.specs.Words.{MakesWord, pair_value, word}
use Rattle.aig_blast.proofs.bitwise.zip.Given as goal

abbrev pub invariant-loop-k : goal.invariant-loop-k
invariant-loop-k l =
    MakesWord l.fn.graph l.graph l.made.items (λ i. zip_with (pair_value l.gate) (take l.k (word i l.fn.graph l.a)) (take l.k (word i l.fn.graph l.b)))
