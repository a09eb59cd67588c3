use Rattle.std.proofs.Common.{◌≡◌, false, take}
use Rattle.std.specs.List.{list_any}
use Rattle.btor2_model.specs.inner.Known.{scope_of}
use Rattle.btor2_model.specs.Scope.{argument_depends}
use Rattle.btor2_model.proofs.known.Known.one_depends.Given as goal

abbrev pub invariant-loop-argument : goal.invariant-loop-argument
invariant-loop-argument l = list_any (argument_depends (scope_of l.self)) (take l.argument-index l.arguments) ≡ false
