use Rattle.std.proofs.Common.{◌≡◌, ◌++◌, drop, map}
use Rattle.wave_text.specs.Waves.{known}
use Rattle.wave_text.proofs.level.push_known.Given as goal

abbrev pub invariant-loop-value : goal.invariant-loop-value
invariant-loop-value l = l.levels ++ map known (drop l.value-index l.values) ≡ l.fn.levels ++ map known l.values
