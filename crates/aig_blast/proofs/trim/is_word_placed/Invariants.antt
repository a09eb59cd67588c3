use Rattle.std.proofs.Common.{take, All}
use Rattle.aig_blast.specs.inner.Trims.{IsPlaced}
use Rattle.aig_blast.proofs.trim.is_word_placed.Given as goal

abbrev pub invariant-loop-lit : goal.invariant-loop-lit
invariant-loop-lit l = All (IsPlaced l.places) (take l.lit-index l.word)
