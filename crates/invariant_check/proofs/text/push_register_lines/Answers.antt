use Rattle.std.proofs.Common.{◌+◌, ◌++◌, ℕ, List, ap, ap₂, ◌∙◌, arith}
use Rattle.aig_blast.specs.declared.aig.LatchWord.{LatchWord}
use Rattle.invariant_check.specs.Bits.{bit_names}
use Rattle.invariant_check.specs.Texts.{bit_lines}
use Rattle.invariant_check.proofs.Reading.{length-bit_names}
use Rattle.invariant_check.proofs.Texts.{place_fits, place_step, word_step}
use Rattle.invariant_check.proofs.text.push_register_lines.Goals as goal

pub push_word_lines-requires : goal.push_word_lines-requires
push_word_lines-requires c =
    omega (
      arith,
      place_fits (λ (word : LatchWord). word.first.width) c.args.variable c.loop-word.next
          c.args.latches.now c.loop-word.word-index c.word-item.result c.loop-word-test.true c.word-item.is
          c.loop-word.invariant.next,
      c.requires,
      c.width-width.ensures.width,
    )

pub overflow_add-next : goal.overflow_add-next
overflow_add-next c =
    omega (
      arith,
      place_fits (λ (word : LatchWord). word.first.width) c.args.variable c.loop-word.next
          c.args.latches.now c.loop-word.word-index c.word-item.result c.loop-word-test.true c.word-item.is
          c.loop-word.invariant.next,
      c.requires,
      c.width-width.ensures.width,
    )

pub loop-word-preserved : goal.loop-word-preserved
loop-word-preserved c = record {
  next = ap (λ n. c.loop-word.next + n) c.width-width.ensures.width
      ∙ place_step (λ (word : LatchWord). word.first.width) c.args.variable c.loop-word.next c.args.latches.now
      c.loop-word.word-index c.word-item.result c.loop-word-test.true c.word-item.is c.loop-word.invariant.next;
  text = word_step (λ (word : LatchWord). word.first.width) (λ (word : LatchWord). bit_names word.name word.first.width)
      (λ (word : LatchWord). length-bit_names word.name word.first.width)
      c.args.variable c.loop-word.next c.args.text.now c.loop-word.text c.push_word_lines.new.text c.args.latches.now
      c.loop-word.word-index c.word-item.result c.loop-word-test.true c.word-item.is c.loop-word.invariant.next
      c.loop-word.invariant.text
      (c.in_ok-push_word_lines.ensures
      ∙ ap₂ (λ (name : List ℕ) (n : ℕ). c.loop-word.text
      ++ bit_lines c.loop-word.next (bit_names name n)) c.as_slice.ensures c.width-width.ensures.width);
}
