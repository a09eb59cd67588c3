use Rattle.std.proofs.Common.{◌≡◌, ◌+◌, ◌≤◌, ap, arith, drop, drop_of_length-le}
use Rattle.std.specs.List.{sum_by}
use Rattle.std.proofs.lemmas.List.Sums.{sum_by-drop_more}
use Rattle.koika_check.specs.inner.Checking.{arrays_of}
use Rattle.koika_check.specs.inner.Shapes.{type_of_shape}
use Rattle.koika_check.specs.Types.{width_of}
use Rattle.koika_check.specs.declared.shapes.Shape.{Shape}
use Rattle.koika_check.specs.declared.shapes.Shape.TheVariants as shape
use Rattle.koika_check.proofs.checker.Checker.widths_behind.Goals as goal

pub overflow_add-sum : goal.overflow_add-sum
overflow_add-sum c =
    let width = λ (s : Shape). width_of c.args.self.now.design (type_of_shape (arrays_of c.args.self.now) s) in
    let next = sum_by-drop_more width c.args.shapes.now c.loop-index.index (shape.Bits 0) c.loop-index-test.true in
    let few : c.loop-index.sum + c.width-sum.result ≤ 128 = omega (arith, c.loop-index.invariant, next, c.width-sum.ensures, c.requires.few) in
    omega (arith, few)

pub loop-index-preserved : goal.loop-index-preserved
loop-index-preserved c =
    let width = λ (s : Shape). width_of c.args.self.now.design (type_of_shape (arrays_of c.args.self.now) s) in
    let next = sum_by-drop_more width c.args.shapes.now c.loop-index.index (shape.Bits 0) c.loop-index-test.true in
    omega (arith, c.loop-index.invariant, next, c.width-sum.ensures)

pub returns : goal.returns
returns c =
    let width = λ (s : Shape). width_of c.args.self.now.design (type_of_shape (arrays_of c.args.self.now) s) in
    let none : sum_by width (drop c.loop-index.index c.args.shapes.now) ≡ 0 = ap (sum_by width) (drop_of_length-le c.args.shapes.now c.loop-index-test.false) in
    omega (arith, c.loop-index.invariant, none)
