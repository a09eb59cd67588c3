use Rattle.std.proofs.Common.{◌+◌, ◌++◌, ◌^◌, ℕ, List, ap, ap₂, ◌∙◌, arith}
use Rattle.aig_blast.specs.declared.aig.LatchWord.{LatchWord}
use Rattle.aiger_text.specs.Printing.{latch_symbols, latch_width_of, word_symbols}
use Rattle.aiger_text.proofs.Laid.{laid-step, place-fits, place-step}
use Rattle.aiger_text.proofs.print.push_latch_symbols.Goals as goal

pub push_word_symbols-requires : goal.push_word_symbols-requires
push_word_symbols-requires c =
    omega (arith, place-fits latch_width_of 0 c.loop-word.index (2 ^ 60) c.args.words.now c.loop-word.word-index c.word-item.result c.loop-word-test.true c.word-item.is c.loop-word.invariant.index c.requires)

pub overflow_add-index : goal.overflow_add-index
overflow_add-index c =
    omega (arith, place-fits latch_width_of 0 c.loop-word.index (2 ^ 60) c.args.words.now c.loop-word.word-index c.word-item.result c.loop-word-test.true c.word-item.is c.loop-word.invariant.index c.requires, c.width-in-loop-word.ensures.width)

pub loop-word-preserved : goal.loop-word-preserved
loop-word-preserved c = record {
  index = ap (λ n. c.loop-word.index + n) c.width-in-loop-word.ensures.width ∙ place-step latch_width_of 0 c.loop-word.index c.args.words.now c.loop-word.word-index c.word-item.result c.loop-word-test.true c.word-item.is c.loop-word.invariant.index;
  text = laid-step latch_width_of latch_symbols 0 c.args.words.now c.loop-word.word-index c.word-item.result c.args.text.now c.loop-word.text c.push_word_symbols.new.text c.loop-word.index c.loop-word-test.true c.loop-word.invariant.index c.loop-word.invariant.text
      (c.in_ok-push_word_symbols.ensures ∙ ap₂ (λ (name : List ℕ) (w : ℕ). c.loop-word.text ++ word_symbols 108 c.loop-word.index name w) c.as_slice.ensures c.width.ensures.width ∙ ap (λ (word : LatchWord). c.loop-word.text ++ latch_symbols c.loop-word.index word) c.word-item.is);
}
