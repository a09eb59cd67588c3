use Rattle.std.proofs.Common.{◌≡◌, List, All, drop, length, map}
use Rattle.koika_check.specs.Constructs as types
use Rattle.koika_check.specs.inner.Shapes.{AreArrays, IsShape, IsShapeIf, part_of, type_of_shape}
use Rattle.koika_check.specs.declared.agreement.Part.{Part}
use Rattle.koika_check.specs.declared.typed.ValueType.{ValueType}
use Rattle.koika_check.proofs.calls.arguments_agree.Given as goal

abbrev pub invariant-loop-index : goal.invariant-loop-index
invariant-loop-index l = (arrays : List ValueType) → AreArrays arrays → All (IsShape (length arrays)) l.parameters → All (λ (p : Part). IsShapeIf arrays p.of) l.arguments →
    types.arguments_agree (map (type_of_shape arrays) (drop l.index l.parameters)) (map (part_of arrays) (drop l.index l.arguments))
    ≡ types.arguments_agree (map (type_of_shape arrays) l.parameters) (map (part_of arrays) l.arguments)
