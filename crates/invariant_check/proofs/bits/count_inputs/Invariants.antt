use Rattle.std.proofs.Common.{◌≡◌, take, sum}
use Rattle.aig_blast.specs.Aigs.{input_word_widths}
use Rattle.invariant_check.proofs.bits.count_inputs.Given as goal

abbrev pub invariant-loop-word : goal.invariant-loop-word
invariant-loop-word l = l.count ≡ sum (input_word_widths (take l.word-index l.words))
