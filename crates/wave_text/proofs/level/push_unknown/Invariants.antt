use Rattle.std.proofs.Common.{◌≡◌, ◌++◌, replicate}
use Rattle.wave_text.specs.declared.level.Level.TheVariants.{Unknown}
use Rattle.wave_text.proofs.level.push_unknown.Given as goal

abbrev pub invariant-loop-variable : goal.invariant-loop-variable
invariant-loop-variable l = l.levels ≡ l.fn.levels ++ replicate l._variable Unknown
