use Rattle.std.proofs.Common.{◌≡◌, map, take}
use Rattle.aig_blast.specs.inner.Trims.{moved}
use Rattle.aig_blast.proofs.trim.moved_words.Given as goal

abbrev pub invariant-loop-word : goal.invariant-loop-word
invariant-loop-word l = l.made ≡ map (map (moved l.places)) (take l.word-index l.words)
