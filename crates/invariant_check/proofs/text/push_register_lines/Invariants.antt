use Rattle.std.proofs.Common.{◌≡◌, ◌+◌, ◌++◌, sum, take}
use Rattle.aig_blast.specs.Aigs.{latch_widths}
use Rattle.invariant_check.specs.Bits.{register_bits}
use Rattle.invariant_check.specs.Texts.{bit_lines}
use Rattle.invariant_check.proofs.text.push_register_lines.Given as goal

abbrev pub invariant-loop-word : goal.invariant-loop-word
invariant-loop-word l =
    record {
      next : l.next ≡ l.variable + sum (latch_widths (take l.word-index l.latches));
      text : l.text ≡ l.fn.text ++ bit_lines l.variable (register_bits (take l.word-index l.latches));
    }
