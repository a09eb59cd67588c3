use Rattle.std.proofs.Common.{◌≡◌, None, take}
use Rattle.std.specs.List.{find}
use Rattle.btor2_model.specs.Rules.{is_init}
use Rattle.btor2_model.specs.inner.SlowRun.{sets}
use Rattle.btor2_model.proofs.states.init_of.Given as goal

abbrev pub invariant-loop-line : goal.invariant-loop-line
invariant-loop-line l = find (sets is_init l.state) (take l.line-index l.lines) ≡ None
