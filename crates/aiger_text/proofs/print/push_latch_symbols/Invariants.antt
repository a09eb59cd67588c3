use Rattle.std.proofs.Common.{◌≡◌, ◌+◌, ◌++◌, take}
use Rattle.std.specs.Prelude.{sum}
use Rattle.aig_blast.specs.Aigs.{latch_widths}
use Rattle.aiger_text.specs.Printing.{laid, latch_symbols, latch_width_of}
use Rattle.aiger_text.proofs.print.push_latch_symbols.Given as goal

abbrev pub invariant-loop-word : goal.invariant-loop-word
invariant-loop-word l = record {
  index : l.index ≡ 0 + sum (latch_widths (take l.word-index l.words));
  text : l.text ≡ l.fn.text ++ laid latch_width_of latch_symbols 0 (take l.word-index l.words);
}
