use Rattle.std.proofs.Common.{◌≡◌, ℕ, ◌≤◌, ◌<◌, false, List}
use Rattle.std.specs.Prelude.{◌↔◌}
use Rattle.kw_bits.specs.BitVector.{BitVector}
use Rattle.net_graph.specs.Values.{Sources}
use Rattle.net_action.specs.Gates.{Grows}
use Rattle.net_action.specs.Wires.{AreValues, HasWire, is_up, wire_at}
use Rattle.net_action.proofs.ports.any_from.Given as goal

abbrev pub invariant-loop-at : goal.invariant-loop-at
invariant-loop-at l = record {
  grows : (inputs : List ℕ) → Grows inputs l.fn.net l.net;
  wire : HasWire l.net l.any 1;
  down : (s : Sources) (values : List BitVector) → AreValues s l.net values → (is_up values l.any ≡ false) ↔ ((at : ℕ) → l.port ≤ at → at < l.at → is_up values (wire_at l.wires at l.register) ≡ false);
}
