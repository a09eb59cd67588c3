use Rattle.std.proofs.Common.{ap, refl, sym, ◌∙◌}
use Rattle.koika_check.specs.Types.{type_named}
use Rattle.koika_check.proofs.Checkers.{base-wide, named-none, named-wide}
use Rattle.koika_check.proofs.checker.Checker.declared_type.Goals as goal

pub returns-in-None : goal.returns-in-None
returns-in-None c =
    let named = sym (c.type_of_name.ensures ∙ ap (type_named c.args.self.now.design) c.as_slice.ensures) ∙ c.in-None.is in
    rw (c.stop_at.ensures, named-none c.args.self.now.design c.args.name.now named) refl

pub returns-then-not-is_width : goal.returns-then-not-is_width
returns-then-not-is_width c =
    let named = sym (c.type_of_name.ensures ∙ ap (type_named c.args.self.now.design) c.as_slice.ensures) ∙ c.in-Some.is in
    rw (
      c.stop_at-then-not-is_width.ensures,
      named-wide c.args.self.now.design c.args.name.now c.in-Some.base named
          (base-wide c.args.self.now.design c.in-Some.base _ c.shape_of-shape.result c.width.result c.is_width.result c.shape_of-shape.ensures c.width.ensures c.is_width.ensures c.if-not-is_width.true),
    ) refl
