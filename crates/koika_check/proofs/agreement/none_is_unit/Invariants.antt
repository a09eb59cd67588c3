use Rattle.std.proofs.Common.{◌≡◌, List, drop, map}
use Rattle.koika_check.specs.inner.Shapes.{part_of}
use Rattle.koika_check.specs.Types as types
use Rattle.koika_check.specs.declared.typed.ValueType.{ValueType}
use Rattle.koika_check.proofs.agreement.none_is_unit.Given as goal

abbrev pub invariant-loop-part : goal.invariant-loop-part
invariant-loop-part l = (arrays : List ValueType) → types.each types.is_value (map (part_of arrays) (drop l.part-index l.parts)) ≡ types.each types.is_value (map (part_of arrays) l.parts)
