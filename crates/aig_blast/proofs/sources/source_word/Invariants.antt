use Rattle.std.proofs.Common.{◌≡◌}
use Rattle.aig_blast.specs.inner.Sources.{source_word}
use Rattle.aig_blast.proofs.sources.source_word.Given as goal

abbrev pub invariant-loop-k : goal.invariant-loop-k
invariant-loop-k l = l.word ≡ source_word l.start l.k
