use Rattle.std.proofs.Common.{◌≡◌, ◌+◌, ◌++◌, sum, take}
use Rattle.aig_blast.specs.Aigs.{input_word_widths}
use Rattle.invariant_check.specs.Bits.{input_bits}
use Rattle.invariant_check.specs.Texts.{bit_lines}
use Rattle.invariant_check.proofs.text.push_input_lines.Given as goal

abbrev pub invariant-loop-word : goal.invariant-loop-word
invariant-loop-word l =
    record {
      next : l.next ≡ l.variable + sum (input_word_widths (take l.word-index l.inputs));
      text : l.text ≡ l.fn.text ++ bit_lines l.variable (input_bits (take l.word-index l.inputs));
    }
