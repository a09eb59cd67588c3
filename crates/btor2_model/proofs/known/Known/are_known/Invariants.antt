use Rattle.std.proofs.Common.{◌≡◌, true, take}
use Rattle.std.specs.List.{list_all}
use Rattle.btor2_model.specs.Acceptance.{is_known}
use Rattle.btor2_model.specs.inner.Known.{scope_of}
use Rattle.btor2_model.proofs.known.Known.are_known.Given as goal

abbrev pub invariant-loop-argument : goal.invariant-loop-argument
invariant-loop-argument l = list_all (is_known (scope_of l.self)) (take l.argument-index l.arguments) ≡ true
