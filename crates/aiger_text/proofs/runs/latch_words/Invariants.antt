use Rattle.std.proofs.Common.{◌≡◌, ◌++◌, drop, length}
use Rattle.std.specs.Prelude.{sum}
use Rattle.aig_blast.specs.Aigs.{input_word_widths}
use Rattle.aiger_text.specs.Runs.{latch_words}
use Rattle.aiger_text.proofs.runs.latch_words.Given as goal

abbrev pub invariant-loop-word : goal.invariant-loop-word
invariant-loop-word l = record {
  nexts : length l.literals ≡ sum (input_word_widths (drop l.word-index l.words));
  resets : length l.values ≡ sum (input_word_widths (drop l.word-index l.words));
  so_far : l.latches.items ++ latch_words (drop l.word-index l.words) l.literals l.values ≡ latch_words l.words l.nexts l.resets;
}
