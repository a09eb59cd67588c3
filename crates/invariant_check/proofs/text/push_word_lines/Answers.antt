use Rattle.invariant_check.proofs.Texts.{bit_step}
use Rattle.invariant_check.proofs.text.push_word_lines.Goals as goal

pub loop-bit-preserved : goal.loop-bit-preserved
loop-bit-preserved c =
    bit_step c.args.variable c.loop-bit.bit c.args.name.now c.args.text.now c.loop-bit.text c.push_bit_line.new.text
    c.loop-bit.invariant c.in_ok-push_bit_line.ensures
