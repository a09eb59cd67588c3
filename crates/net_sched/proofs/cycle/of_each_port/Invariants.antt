use Rattle.std.proofs.Common.{◌≡◌, ◌+◌, ◌*◌, ◌<◌, ℕ, length}
use Rattle.typed_core.specs.Valid.{IsPort}
use Rattle.typed_core.specs.declared.limits.TheConstants.{PORTS}
use Rattle.net_action.specs.Wires.{wire_at}
use Rattle.net_sched.specs.inner.Cycles.{nth}
use Rattle.net_sched.proofs.cycle.of_each_port.Given as goal

abbrev pub invariant-loop-place : goal.invariant-loop-place
invariant-loop-place l = record {
  count : length l.places ≡ l.place;
  each : (port register : ℕ) → IsPort port → PORTS * register + port < l.place → wire_at l.places port register ≡ nth l.wires register;
}
