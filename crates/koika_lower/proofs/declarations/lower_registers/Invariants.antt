use Rattle.std.proofs.Common.{◌≡◌, map, take}
use Rattle.koika_lower.specs.Lowering.{register_of}
use Rattle.koika_lower.proofs.declarations.lower_registers.Given as goal

abbrev pub invariant-loop-register : goal.invariant-loop-register
invariant-loop-register l = l.all ≡ map register_of (take l.register-index l.fn.checked.registers)
