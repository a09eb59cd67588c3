use Rattle.std.proofs.Common.{List, length, take}
use Rattle.kw_bits.specs.BitVector.{BitVector}
use Rattle.net_graph.specs.Values.{Sources}
use Rattle.typed_core.specs.Widths.{input_widths, register_widths}
use Rattle.one_rule.specs.PortRun.{port_fire}
use Rattle.one_rule.specs.Walk.{start, walk_past}
use Rattle.net_action.specs.Gates.{Grows}
use Rattle.net_action.specs.Wires.{AreValues}
use Rattle.net_sched.specs.inner.Cycles.{AreCycleWires, CycleStandsFor, nothing}
use Rattle.net_sched.proofs.cycle.cycle_wires.Given as goal

abbrev pub invariant-loop-number : goal.invariant-loop-number
invariant-loop-number l = record {
  grows : Grows (input_widths l.design) l.fn.net l.net;
  wires : AreCycleWires l.net (register_widths l.design) (length l.design.nodes) (length l.design.rules) l.cycle;
  walk : (s : Sources) (values : List BitVector) → AreValues s l.net values
      → CycleStandsFor (register_widths l.design) (length l.design.nodes) (length l.design.rules) values s.states l.cycle l.number (walk_past (port_fire l.design s.inputs s.states) 0 (take l.number l.design.nodes) (start l.design.nodes nothing));
}
