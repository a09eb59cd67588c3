use Rattle.std.proofs.Common.{◌≡◌, ◌++◌, replicate}
use Rattle.invariant_check.proofs.cone.add_flags.Given as goal

abbrev pub invariant-loop-place : goal.invariant-loop-place
invariant-loop-place l = l.needed.items ≡ l.fn.needed.items ++ replicate l._place l.flag
