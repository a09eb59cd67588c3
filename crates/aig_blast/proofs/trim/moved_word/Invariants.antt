use Rattle.std.proofs.Common.{◌≡◌, map, take}
use Rattle.aig_blast.specs.inner.Trims.{moved}
use Rattle.aig_blast.proofs.trim.moved_word.Given as goal

abbrev pub invariant-loop-lit : goal.invariant-loop-lit
invariant-loop-lit l = l.made ≡ map (moved l.places) (take l.lit-index l.word)
