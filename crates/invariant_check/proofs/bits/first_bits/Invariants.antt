use Rattle.std.proofs.Common.{◌≡◌, ◌∷◌, false, take}
use Rattle.aig_blast.specs.AigRun.{bits_of, first_words}
use Rattle.invariant_check.proofs.bits.first_bits.Given as goal

abbrev pub invariant-loop-word : goal.invariant-loop-word
invariant-loop-word l = l.values.items ≡ false ∷ bits_of (first_words (take l.word-index l.latches))
