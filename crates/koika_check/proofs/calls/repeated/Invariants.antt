use Rattle.std.proofs.Common.{◌≡◌, replicate}
use Rattle.koika_check.proofs.calls.repeated.Given as goal

abbrev pub invariant-loop : goal.invariant-loop
invariant-loop l = l.shapes ≡ replicate l.counter l.of
