use Rattle.std.proofs.Common.{◌≡◌, ◌+◌, take, sum, arith}
use Rattle.aig_blast.specs.Aigs.{input_word_widths}
use Rattle.aig_blast.specs.declared.aig.InputWord.{InputWord}
use Rattle.invariant_check.proofs.Texts.{place_fits}
use Rattle.invariant_check.proofs.bits.count_inputs.Goals as goal

pub overflow_add-count : goal.overflow_add-count
overflow_add-count c =
    let at : c.loop-word.count
    ≡ 0 + sum (input_word_widths (take c.loop-word.word-index c.args.words.now)) = omega (arith, c.loop-word.invariant)
    in
    omega (
      arith,
      place_fits (λ (word : InputWord). word.width) 0 c.loop-word.count c.args.words.now
          c.loop-word.word-index c.word-item.result c.loop-word-test.true c.word-item.is at,
      c.requires,
    )
