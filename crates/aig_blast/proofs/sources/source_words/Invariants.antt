use Rattle.std.proofs.Common.{◌≡◌, ◌+◌, ◌≤◌, ◌^◌, take}
use Rattle.std.specs.Prelude.{sum}
use Rattle.aig_blast.specs.inner.Sources.{source_words}
use Rattle.aig_blast.proofs.sources.source_words.Given as goal

abbrev pub invariant-loop-width : goal.invariant-loop-width
invariant-loop-width l = record {
  words : l.words ≡ source_words l.start (take l.width-index l.widths);
  next : l.next ≡ l.start + sum (take l.width-index l.widths);
  few : l.next ≤ 2 ^ 60;
}
