use Rattle.std.proofs.Common.{◌≡◌, ◌++◌, false, replicate, take}
use Rattle.std.specs.Prelude.{sum}
use Rattle.aig_blast.specs.Aigs.{input_word_widths}
use Rattle.aig_blast.specs.inner.AigSims.{both}
use Rattle.aig_blast.proofs.sim.add_input_room.Given as goal

abbrev pub invariant-loop-word : goal.invariant-loop-word
invariant-loop-word l = l.values.items ≡ l.fn.values.items ++ both (replicate (sum (input_word_widths (take l.word-index l.words))) false)
