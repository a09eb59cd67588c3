use Rattle.std.proofs.Common.{◌≡◌, ◌≤◌, ◌++◌}
use Rattle.koika_top.specs.Generator.{descending}
use Rattle.koika_top.proofs.generator.push_descending.Given as goal

-- the rest is still to come
abbrev pub invariant-loop-stage : goal.invariant-loop-stage
invariant-loop-stage l = record {
  text : l.text ++ descending l.template l.stage ≡ l.initial.text ++ descending l.template l.stages;
  low : l.stage ≤ l.stages;
}

abbrev pub decreases-loop-stage : goal.decreases-loop-stage
decreases-loop-stage l = l.stage
