use Rattle.std.proofs.Common.{◌≡◌, map, take}
use Rattle.koika_lower.specs.Lowering.{core_input}
use Rattle.koika_lower.proofs.declarations.lower_inputs.Given as goal

abbrev pub invariant-loop-input : goal.invariant-loop-input
invariant-loop-input l = l.all ≡ map core_input (take l.input-index l.inputs)
