use Rattle.std.proofs.Common.{◌≡◌, ℕ, ◌-◌, ◌<◌, ◌≤◌, true, length, get_or}
use Rattle.koika_syntax.specs.Lexemes.{stays_on_line}
use Rattle.koika_syntax.proofs.front.line_len.Given as goal

abbrev pub invariant-loop-len : goal.invariant-loop-len
invariant-loop-len l = (l.len ≤ length l.bytes) × ((k : ℕ) → k < l.len → stays_on_line (get_or l.bytes k 0) ≡ true)

abbrev pub decreases-loop-len : goal.decreases-loop-len
decreases-loop-len l = length l.bytes - l.len
