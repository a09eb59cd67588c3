use Rattle.std.proofs.Common.{◌≡◌, ◌^◌, length, min}
use Rattle.aig_blast.specs.inner.Steps.{up_after}
use Rattle.aig_blast.specs.Words.{MakesWord, word}
use Rattle.aig_blast.proofs.shifts.up.Given as goal

abbrev pub invariant-loop-y : goal.invariant-loop-y
invariant-loop-y l = record {
  so_far : MakesWord l.fn.graph l.graph l.made.items (λ i. up_after (word i l.fn.graph l.a) (word i l.fn.graph l.b) l.y-index);
  width : length l.made.items ≡ length l.a;
  places : l.amount ≡ min (2 ^ l.y-index) (length l.a);
}
