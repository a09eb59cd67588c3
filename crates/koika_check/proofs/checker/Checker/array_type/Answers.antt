use Rattle.std.proofs.Common.{sym, ◌∙◌}
use Rattle.koika_check.specs.inner.Checking.{arrays_of}
use Rattle.koika_check.specs.inner.Shapes.{type_of_shape}
use Rattle.koika_check.proofs.Checkers.{array-width, is-width, more-grows, more-kept}
use Rattle.koika_check.proofs.checker.Checker.array_type.Goals as goal

pub returns-clause-kept : goal.returns-clause-kept
returns-clause-kept c =
    more-kept c.args.self.now c.requires.checker c.array_of.new.self c.in_ok-array_of.ensures.kept _ c.in_ok-array_of.ensures.grows
    (array-width c.args.self.now.design c.args.length c.width.result (type_of_shape (arrays_of c.args.self.now) c.args.element) c.width.ensures)
    (is-width _ (sym c.is_width.ensures ∙ c.if-not-is_width.false))

pub returns-clause-grows : goal.returns-clause-grows
returns-clause-grows c = more-grows c.args.self.now c.array_of.new.self _ c.in_ok-array_of.ensures.grows
