use Rattle.std.proofs.Common.{◌≡◌, replicate, None}
use Rattle.attempt_log.proofs.first.nothing.Given as goal

abbrev pub invariant-loop : goal.invariant-loop
invariant-loop l = record { items : l.list.items ≡ replicate l.counter None; capacity : l.list.capacity ≡ l.places }
