use Rattle.std.proofs.Common.{◌≡◌, ◌++◌, drop}
use Rattle.wave_text.specs.Waves.{changes}
use Rattle.wave_text.proofs.changes.push_changes.Given as goal

abbrev pub invariant-loop-index : goal.invariant-loop-index
invariant-loop-index l = l.text ++ changes (drop l.index l.variables) (drop l.index l.before) (drop l.index l.now) ≡ l.fn.text ++ changes l.variables l.before l.now
