use Rattle.std.proofs.Common.{◌++◌, ◌^◌, ℕ, List, ap, ◌∙◌, arith}
use Rattle.aig_blast.specs.declared.aig.InputWord.{InputWord}
use Rattle.aiger_text.specs.Printing.{input_symbols, input_line_count, word_symbols}
use Rattle.aiger_text.proofs.Laid.{laid-step, place-fits, place-step}
use Rattle.aiger_text.proofs.print.push_input_symbols.Goals as goal

pub push_word_symbols-requires : goal.push_word_symbols-requires
push_word_symbols-requires c =
    omega (arith, place-fits input_line_count 0 c.loop-word.index (2 ^ 60) c.args.words.now c.loop-word.word-index c.word-item.result c.loop-word-test.true c.word-item.is c.loop-word.invariant.index c.requires)

pub overflow_add-index : goal.overflow_add-index
overflow_add-index c =
    omega (arith, place-fits input_line_count 0 c.loop-word.index (2 ^ 60) c.args.words.now c.loop-word.word-index c.word-item.result c.loop-word-test.true c.word-item.is c.loop-word.invariant.index c.requires)

pub loop-word-preserved : goal.loop-word-preserved
loop-word-preserved c = record {
  index = place-step input_line_count 0 c.loop-word.index c.args.words.now c.loop-word.word-index c.word-item.result c.loop-word-test.true c.word-item.is c.loop-word.invariant.index;
  text = laid-step input_line_count input_symbols 0 c.args.words.now c.loop-word.word-index c.word-item.result c.args.text.now c.loop-word.text c.push_word_symbols.new.text c.loop-word.index c.loop-word-test.true c.loop-word.invariant.index c.loop-word.invariant.text
      (c.in_ok-push_word_symbols.ensures ∙ ap (λ (name : List ℕ). c.loop-word.text ++ word_symbols 105 c.loop-word.index name c.word-item.result.width) c.as_slice.ensures ∙ ap (λ (word : InputWord). c.loop-word.text ++ input_symbols c.loop-word.index word) c.word-item.is);
}
