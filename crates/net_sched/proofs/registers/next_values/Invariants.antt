use Rattle.std.proofs.Common.{◌≡◌, ◌<◌, ℕ, List, length}
use Rattle.std.specs.Prelude.{slice_index_or}
use Rattle.kw_bits.specs.BitVector.{BitVector}
use Rattle.net_graph.specs.Values.{Sources, value_at}
use Rattle.typed_core.specs.Alone.{seen}
use Rattle.typed_core.specs.Evaluation.{unit}
use Rattle.typed_core.specs.Widths.{register_widths}
use Rattle.typed_core.specs.declared.access.Event.{Event}
use Rattle.typed_core.specs.declared.limits.TheConstants.{PORTS}
use Rattle.net_action.specs.Gates.{Grows}
use Rattle.net_action.specs.Wires.{AreValues, HasWire, PortsStandFor}
use Rattle.net_sched.specs.inner.Cycles.{nth}
use Rattle.net_sched.proofs.registers.next_values.Given as goal

abbrev pub invariant-loop-register : goal.invariant-loop-register
invariant-loop-register l = record {
  grows : (inputs : List ℕ) → Grows inputs l.fn.net l.net;
  count : length l.wires ≡ l.register;
  wires : (register : ℕ) → register < l.register → HasWire l.net (nth l.wires register) (nth (register_widths l.design) register);
  values : (s : Sources) (values : List BitVector) (events : List Event) (regs : List BitVector) → AreValues s l.net values → PortsStandFor (register_widths l.design) values l.ports events regs
      → (register : ℕ) → register < l.register → value_at values (nth l.wires register) ≡ seen PORTS register events (slice_index_or regs register unit);
}
