use Rattle.std.proofs.Common.{◌≡◌, ◌++◌, drop}
use Rattle.wave_text.specs.Waves.{declarations}
use Rattle.wave_text.proofs.declarations.push_declarations.Given as goal

abbrev pub invariant-loop-number : goal.invariant-loop-number
invariant-loop-number l = l.text ++ declarations l.kind l.number (drop l.number l.named) ≡ l.fn.text ++ declarations l.kind 0 l.named
