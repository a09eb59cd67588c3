use Rattle.std.proofs.Common.{◌≡◌, ◌<◌, ℕ, List, length}
use Rattle.std.specs.Prelude.{◌&&◌, if◌then◌else◌}
use Rattle.kw_bits.specs.BitVector.{BitVector}
use Rattle.net_graph.specs.Values.{Sources, value_at}
use Rattle.net_action.specs.Gates.{Grows}
use Rattle.net_action.specs.Wires.{AreValues, HasWire, is_up}
use Rattle.net_sched.specs.inner.Cycles.{nth}
use Rattle.net_sched.proofs.log.joined_values.Given as goal

abbrev pub invariant-loop-place : goal.invariant-loop-place
invariant-loop-place l = record {
  grows : (inputs : List ℕ) → Grows inputs l.fn.net l.net;
  count : length l.values ≡ l.place;
  wires : (place width : ℕ) → place < l.place → HasWire l.fn.net (nth l.sched.values place) width → HasWire l.net (nth l.values place) width;
  value : (s : Sources) (values : List BitVector) → AreValues s l.net values → (place : ℕ) → place < l.place
      → value_at values (nth l.values place) ≡ (if is_up values l.fires && is_up values (nth l.rule.was_written place) then value_at values (nth l.rule.values place) else value_at values (nth l.sched.values place));
}
