use Rattle.std.proofs.Common.{◌≡◌, ℕ, List}
use Rattle.kw_bits.specs.BitVector.{BitVector}
use Rattle.net_graph.specs.Values.{Sources, value_at}
use Rattle.typed_core.specs.Alone.{seen}
use Rattle.typed_core.specs.Widths.{register_widths}
use Rattle.typed_core.specs.declared.access.Event.{Event}
use Rattle.net_action.specs.Gates.{Grows}
use Rattle.net_action.specs.Wires.{AreValues, HasWire, LogStandsFor}
use Rattle.net_sched.specs.inner.Cycles.{nth}
use Rattle.net_sched.proofs.registers.last_value.Given as goal

abbrev pub invariant-loop-port : goal.invariant-loop-port
invariant-loop-port l = record {
  grows : (inputs : List ℕ) → Grows inputs l.fn.net l.net;
  wire : HasWire l.net l.value (nth (register_widths l.design) l.register);
  value : (s : Sources) (values : List BitVector) (events : List Event) → AreValues s l.net values → LogStandsFor (register_widths l.design) values l.log events
      → value_at values l.value ≡ seen l.port l.register events (value_at values l.start);
}
