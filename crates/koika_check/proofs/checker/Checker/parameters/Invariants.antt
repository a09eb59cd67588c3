use Rattle.std.proofs.Common.{◌≡◌, [], drop}
use Rattle.koika_check.specs.inner.Checking.{Grows, IsChecker, scope_of}
use Rattle.koika_check.specs.Declarations.{add_parameter}
use Rattle.koika_check.specs.Outcomes.{one_by_one}
use Rattle.koika_check.specs.inner.Parameters.{AreParameters}
use Rattle.koika_check.proofs.checker.Checker.parameters.Given as goal

abbrev pub invariant-loop-parameter : goal.invariant-loop-parameter
invariant-loop-parameter l = record {
  checker : IsChecker l.self;
  grows : Grows l.fn.self l.self;
  bound : AreParameters l.self l.all;
  rest : one_by_one (add_parameter l.fn.self.design) (drop l.parameter-index l.parameters) (scope_of l.self).locals ≡ one_by_one (add_parameter l.fn.self.design) l.parameters [];
}
