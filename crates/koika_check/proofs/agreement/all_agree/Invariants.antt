use Rattle.std.proofs.Common.{◌≡◌, List, All, drop, map}
use Rattle.koika_check.specs.inner.Shapes.{AreArrays, IsShapeIf, part_of, type_if}
use Rattle.koika_check.specs.Types as types
use Rattle.koika_check.specs.declared.agreement.Part.{Part}
use Rattle.koika_check.specs.declared.typed.ValueType.{ValueType}
use Rattle.koika_check.proofs.agreement.all_agree.Given as goal

abbrev pub invariant-loop-part : goal.invariant-loop-part
invariant-loop-part l = (arrays : List ValueType) → AreArrays arrays → IsShapeIf arrays l.wanted → All (λ (p : Part). IsShapeIf arrays p.of) l.parts →
    types.each (types.agrees (type_if arrays l.wanted)) (map (part_of arrays) (drop l.part-index l.parts)) ≡ types.each (types.agrees (type_if arrays l.wanted)) (map (part_of arrays) l.parts)
