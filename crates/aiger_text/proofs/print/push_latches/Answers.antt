use Rattle.std.proofs.Common.{◌+◌, ◌++◌, ◌^◌, ℕ, List, ap, ◌∙◌, arith}
use Rattle.aig_blast.specs.declared.aig.LatchWord.{LatchWord}
use Rattle.aiger_text.specs.Printing.{latch_word_text, latch_width_of, latch_lines}
use Rattle.aiger_text.proofs.Laid.{laid-step, place-fits, place-step}
use Rattle.aiger_text.proofs.print.push_latches.Goals as goal

pub push_latch_word-requires-clause-variable : goal.push_latch_word-requires-clause-variable
push_latch_word-requires-clause-variable c =
    omega (arith, place-fits latch_width_of c.args.first c.loop-word.variable (2 ^ 60) c.args.words.now c.loop-word.word-index c.word-item.result c.loop-word-test.true c.word-item.is c.loop-word.invariant.variable c.requires.count)

pub overflow_add-variable : goal.overflow_add-variable
overflow_add-variable c =
    omega (arith, place-fits latch_width_of c.args.first c.loop-word.variable (2 ^ 60) c.args.words.now c.loop-word.word-index c.word-item.result c.loop-word-test.true c.word-item.is c.loop-word.invariant.variable c.requires.count, c.width.ensures.width)

pub loop-word-preserved : goal.loop-word-preserved
loop-word-preserved c = record {
  variable = ap (λ n. c.loop-word.variable + n) c.width.ensures.width ∙ place-step latch_width_of c.args.first c.loop-word.variable c.args.words.now c.loop-word.word-index c.word-item.result c.loop-word-test.true c.word-item.is c.loop-word.invariant.variable;
  text = laid-step latch_width_of latch_word_text c.args.first c.args.words.now c.loop-word.word-index c.word-item.result c.args.text.now c.loop-word.text c.push_latch_word.new.text c.loop-word.variable c.loop-word-test.true c.loop-word.invariant.variable c.loop-word.invariant.text
      (c.in_ok-push_latch_word.ensures ∙ ap (λ (nexts : List ℕ). c.loop-word.text ++ latch_lines c.loop-word.variable c.word-item.result.first nexts) c.as_slice.ensures ∙ ap (λ (word : LatchWord). c.loop-word.text ++ latch_word_text c.loop-word.variable word) c.word-item.is);
}
