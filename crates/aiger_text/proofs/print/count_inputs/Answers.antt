use Rattle.std.proofs.Common.{◌≡◌, ◌+◌, ◌^◌, take, arith}
use Rattle.std.specs.Prelude.{sum}
use Rattle.aig_blast.specs.Aigs.{input_word_widths}
use Rattle.aiger_text.specs.Printing.{input_line_count}
use Rattle.aiger_text.proofs.Laid.{place-fits}
use Rattle.aiger_text.proofs.print.count_inputs.Goals as goal

pub overflow_add-count : goal.overflow_add-count
overflow_add-count c =
    let at : c.loop-word.count ≡ 0 + sum (input_word_widths (take c.loop-word.word-index c.args.words.now)) = omega (arith, c.loop-word.invariant) in
    omega (arith, place-fits input_line_count 0 c.loop-word.count (2 ^ 60) c.args.words.now c.loop-word.word-index c.word-item.result c.loop-word-test.true c.word-item.is at c.requires)
