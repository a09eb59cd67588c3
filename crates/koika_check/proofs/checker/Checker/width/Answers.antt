use Rattle.std.proofs.Common.{ap, arith, length, sym, subst, ◌∙◌, ◌<◌}
use Rattle.koika_check.specs.inner.Checking.{arrays_of}
use Rattle.koika_check.specs.inner.Shapes.{IsShape, type_of_shape}
use Rattle.koika_check.specs.Types.{width_of}
use Rattle.koika_check.specs.declared.shapes.ArrayShape.{ArrayShape}
use Rattle.koika_check.specs.declared.shapes.Shape.{Shape}
use Rattle.koika_check.proofs.ArrayTypes.{length_types}
use Rattle.koika_check.proofs.checker.Checker.width.Goals as goal

pub array-requires : goal.array-requires
array-requires c =
    let known = subst (IsShape (length (arrays_of c.args.self.now))) c.in-Array.is c.requires.known in
    omega (arith, known, length_types c.args.self.now.shapes.arrays)

pub returns-in-Array : goal.returns-in-Array
returns-in-Array c =
    let known = subst (IsShape (length (arrays_of c.args.self.now))) c.in-Array.is c.requires.known in
    let within : c.in-Array.number < length c.args.self.now.shapes.arrays = omega (arith, known, length_types c.args.self.now.shapes.arrays) in
    ap (λ (a : ArrayShape). a.width) c.array.ensures ∙ c.requires.checker.arrays c.in-Array.number c.array.result within
    ∙ sym (ap (λ (s : Shape). width_of c.args.self.now.design (type_of_shape (arrays_of c.args.self.now) s)) c.in-Array.is)
