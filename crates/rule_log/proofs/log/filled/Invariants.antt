use Rattle.std.proofs.Common.{◌≡◌, replicate}
use Rattle.rule_log.proofs.log.filled.Given as goal

abbrev pub invariant-loop : goal.invariant-loop
invariant-loop g l = record { items : l.list.items ≡ replicate l.counter l.item; capacity : l.list.capacity ≡ l.count }
