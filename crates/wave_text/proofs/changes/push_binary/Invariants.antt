use Rattle.std.proofs.Common.{◌≡◌, ◌++◌}
use Rattle.wave_text.specs.Waves.{binary, binary_digits}
use Rattle.wave_text.proofs.changes.push_binary.Given as goal

-- the digits below the place are left
abbrev pub invariant-loop-place : goal.invariant-loop-place
invariant-loop-place l = l.text ++ binary_digits l.place l.number ≡ l.fn.text ++ binary l.number
