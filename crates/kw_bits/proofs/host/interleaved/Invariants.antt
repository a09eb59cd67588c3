use Rattle.std.proofs.Common.{◌≡◌}
use Rattle.kw_bits.specs.Host.{number_of_bits, interleaved_bit}
use Rattle.kw_bits.proofs.host.interleaved.Given as goal

-- the bits so far
abbrev pub invariant-loop-i : goal.invariant-loop-i
invariant-loop-i l = l.number ≡ number_of_bits l.i (interleaved_bit l.x l.y)
