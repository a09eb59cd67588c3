use Rattle.std.proofs.Common.{arith}
use Rattle.kw_bits.specs.Host.{answer}
use Rattle.kw_bits.proofs.Reversal.{reversed_word}
use Rattle.host_fn.proofs.offered.reverse.Goals as goal

pub returns : goal.returns
unfolding answer
returns c = rw c.reverse_bits.ensures (omega (arith, reversed_word 8 8 c.args.x (omega arith)))
