use Rattle.std.proofs.Common.{◌≡◌, drop}
use Rattle.koika_check.specs.Declarations.{declare}
use Rattle.koika_check.specs.Outcomes.{one_by_one}
use Rattle.koika_check.specs.inner.Settled.{IsSettled}
use Rattle.koika_check.proofs.checker.Checker.declarations.Given as goal

abbrev pub invariant-loop-declaration : goal.invariant-loop-declaration
invariant-loop-declaration l = record {
  settled : IsSettled l.self;
  hosts : l.self.hosts ≡ l.fn.self.hosts;
  rest : one_by_one (declare l.fn.self.hosts) (drop l.declaration-index l.all) l.self.design ≡ one_by_one (declare l.fn.self.hosts) l.all l.fn.self.design;
}
