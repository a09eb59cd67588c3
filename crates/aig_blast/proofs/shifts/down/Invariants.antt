use Rattle.std.proofs.Common.{◌≡◌, ◌^◌, length, min}
use Rattle.aig_blast.specs.inner.Steps.{down_after}
use Rattle.aig_blast.specs.Graphs.{value}
use Rattle.aig_blast.specs.Words.{MakesWord, word}
use Rattle.aig_blast.proofs.shifts.down.Given as goal

abbrev pub invariant-loop-y : goal.invariant-loop-y
invariant-loop-y l = record {
  so_far : MakesWord l.fn.graph l.graph l.made.items (λ i. down_after (value i l.fn.graph l.fill) (word i l.fn.graph l.a) (word i l.fn.graph l.b) l.y-index);
  width : length l.made.items ≡ length l.a;
  places : l.amount ≡ min (2 ^ l.y-index) (length l.a);
}
