use Rattle.std.proofs.Common.{◌≡◌, List, All, drop}
use Rattle.koika_check.specs.Composites.{agrees_if}
use Rattle.koika_check.specs.inner.Shapes.{AreArrays, IsShapeIf, part_of, type_if}
use Rattle.koika_check.specs.Types as types
use Rattle.koika_check.specs.declared.composites.Given.{Given}
use Rattle.koika_check.specs.declared.typed.ValueType.{ValueType}
use Rattle.koika_check.proofs.composites.wrong_value.Given as goal

abbrev pub invariant-loop-field : goal.invariant-loop-field
invariant-loop-field l = (arrays : List ValueType) → AreArrays arrays → All (λ (g : Given). IsShapeIf arrays g.wanted × IsShapeIf arrays g.part.of) l.given →
    types.each (λ (g : Given). agrees_if (type_if arrays g.wanted) (part_of arrays g.part)) (drop l.field-index l.given) ≡ types.each (λ (g : Given). agrees_if (type_if arrays g.wanted) (part_of arrays g.part)) l.given
