use Rattle.std.proofs.Common.{◌≡◌, ◌+◌, drop}
use Rattle.std.specs.List.{sum_by}
use Rattle.koika_check.specs.inner.Checking.{arrays_of}
use Rattle.koika_check.specs.inner.Shapes.{type_of_shape}
use Rattle.koika_check.specs.Types.{width_of}
use Rattle.koika_check.specs.declared.shapes.Shape.{Shape}
use Rattle.koika_check.proofs.checker.Checker.widths_behind.Given as goal

abbrev pub invariant-loop-index : goal.invariant-loop-index
invariant-loop-index l =
    l.sum + sum_by (λ (s : Shape). width_of l.fn.self.design (type_of_shape (arrays_of l.fn.self) s)) (drop l.index l.shapes)
    ≡ sum_by (λ (s : Shape). width_of l.fn.self.design (type_of_shape (arrays_of l.fn.self) s)) (drop (l.fn.number + 1) l.shapes)
