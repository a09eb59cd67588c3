use Rattle.std.proofs.Common.{◌++◌, ◌^◌, ap, ◌∙◌, arith}
use Rattle.aig_blast.specs.declared.aig.InputWord.{InputWord}
use Rattle.aiger_text.specs.Printing.{input_word_text, input_line_count}
use Rattle.aiger_text.proofs.Laid.{laid-step, place-fits, place-step}
use Rattle.aiger_text.proofs.print.push_inputs.Goals as goal

pub push_input_word-requires : goal.push_input_word-requires
push_input_word-requires c =
    omega (arith, place-fits input_line_count 1 c.loop-word.variable (2 ^ 60) c.args.words.now c.loop-word.word-index c.word-item.result c.loop-word-test.true c.word-item.is c.loop-word.invariant.variable c.requires)

pub overflow_add-variable : goal.overflow_add-variable
overflow_add-variable c =
    omega (arith, place-fits input_line_count 1 c.loop-word.variable (2 ^ 60) c.args.words.now c.loop-word.word-index c.word-item.result c.loop-word-test.true c.word-item.is c.loop-word.invariant.variable c.requires)

pub loop-word-preserved : goal.loop-word-preserved
loop-word-preserved c = record {
  variable = place-step input_line_count 1 c.loop-word.variable c.args.words.now c.loop-word.word-index c.word-item.result c.loop-word-test.true c.word-item.is c.loop-word.invariant.variable;
  text = laid-step input_line_count input_word_text 1 c.args.words.now c.loop-word.word-index c.word-item.result c.args.text.now c.loop-word.text c.push_input_word.new.text c.loop-word.variable c.loop-word-test.true c.loop-word.invariant.variable c.loop-word.invariant.text
      (c.in_ok-push_input_word.ensures ∙ ap (λ (word : InputWord). c.loop-word.text ++ input_word_text c.loop-word.variable word) c.word-item.is);
}
