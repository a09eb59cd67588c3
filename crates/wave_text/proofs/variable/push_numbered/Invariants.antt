use Rattle.std.proofs.Common.{◌≡◌, ◌++◌, drop}
use Rattle.wave_text.specs.Waves.{numbered}
use Rattle.wave_text.proofs.variable.push_numbered.Given as goal

abbrev pub invariant-loop-number : goal.invariant-loop-number
invariant-loop-number l = l.all ++ numbered l.kind l.number (drop l.number l.named) ≡ l.fn.all ++ numbered l.kind 0 l.named
