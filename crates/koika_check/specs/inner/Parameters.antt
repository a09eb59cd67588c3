-- The parameters of a function while they are bound. All of it serves private functions alone.
use Rattle.std.specs.Prelude.{◌≡◌}
use Rattle.koika_check.specs.inner.Checking.{AreTypes, scope_of}
use Rattle.koika_check.specs.Declarations.{types_in_order}
use Rattle.koika_check.specs.inner.Locals.{shapes_of}
use Rattle.koika_check.specs.declared.checker.Checker.{Checker}
use Rattle.koika_check.specs.declared.functions.Parameters.{Parameters}

-- what is bound are these parameters and nothing else
pub record AreParameters (c : Checker) (all : Parameters) : Type 0 where
  pub shapes : shapes_of c.locals ≡ all.shapes
  pub types : AreTypes c all.shapes all.of
  pub order : all.of ≡ types_in_order (scope_of c).locals
