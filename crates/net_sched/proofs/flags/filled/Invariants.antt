use Rattle.std.proofs.Common.{◌≡◌, replicate}
use Rattle.net_sched.proofs.flags.filled.Given as goal

abbrev pub invariant-loop : goal.invariant-loop
invariant-loop l = l.wires ≡ replicate l.counter l.wire
