use Rattle.std.proofs.Common.{◌≡◌, ◌++◌}
use Rattle.koika_top.specs.Generator.{ascending}
use Rattle.koika_top.proofs.generator.push_ascending.Given as goal

abbrev pub invariant-loop-stage : goal.invariant-loop-stage
invariant-loop-stage l = l.text ≡ l.initial.text ++ ascending l.template l.stage
