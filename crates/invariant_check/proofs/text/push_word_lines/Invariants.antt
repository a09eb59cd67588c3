use Rattle.std.proofs.Common.{◌≡◌, ◌++◌}
use Rattle.invariant_check.specs.Bits.{bit_names}
use Rattle.invariant_check.specs.Texts.{bit_lines}
use Rattle.invariant_check.proofs.text.push_word_lines.Given as goal

abbrev pub invariant-loop-bit : goal.invariant-loop-bit
invariant-loop-bit l = l.text ≡ l.fn.text ++ bit_lines l.variable (bit_names l.name l.bit)
