use Rattle.std.proofs.Common.{◌≡◌, ◌+◌, ◌++◌, take}
use Rattle.std.specs.Prelude.{sum}
use Rattle.aig_blast.specs.Aigs.{input_word_widths}
use Rattle.aiger_text.specs.Printing.{input_symbols, laid, input_line_count}
use Rattle.aiger_text.proofs.print.push_input_symbols.Given as goal

abbrev pub invariant-loop-word : goal.invariant-loop-word
invariant-loop-word l = record {
  index : l.index ≡ 0 + sum (input_word_widths (take l.word-index l.words));
  text : l.text ≡ l.fn.text ++ laid input_line_count input_symbols 0 (take l.word-index l.words);
}
