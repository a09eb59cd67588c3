use Rattle.std.proofs.Common.{◌≡◌, ◌++◌, drop, map}
use Rattle.wave_text.specs.Waves.{flag}
use Rattle.wave_text.proofs.level.push_flags.Given as goal

abbrev pub invariant-loop-has_fired : goal.invariant-loop-has_fired
invariant-loop-has_fired l = l.levels ++ map flag (drop l.has_fired-index l.fired) ≡ l.fn.levels ++ map flag l.fired
