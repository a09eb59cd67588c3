use Rattle.std.proofs.Common.{◌≡◌, sum_by, take}
use Rattle.koika_check.specs.inner.BitWeights.{cap}
use Rattle.koika_check.specs.declared.checked.Register.{Register}
use Rattle.koika_check.proofs.bit_weight.register_bits.Given as goal

abbrev pub invariant-loop-register : goal.invariant-loop-register
invariant-loop-register l = l.bits ≡ cap (sum_by (λ (r : Register). r.width) (take l.register-index l.fn.design.registers))
