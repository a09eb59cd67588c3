use Rattle.std.proofs.Common.{◌≡◌, length}
use Rattle.aig_blast.specs.inner.Steps.{product_after}
use Rattle.aig_blast.specs.Words.{MakesWord, word}
use Rattle.aig_blast.proofs.arithmetic.mul.Given as goal

abbrev pub invariant-loop-k : goal.invariant-loop-k
invariant-loop-k l = record {
  so_far : MakesWord l.fn.graph l.graph l.product.items (λ i. product_after (word i l.fn.graph l.a) (word i l.fn.graph l.b) l.k);
  width : length l.product.items ≡ length l.a;
}
