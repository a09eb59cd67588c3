use Rattle.std.proofs.Common.{ℕ, List}
use Rattle.kw_bits.specs.BitVector.{BitVector}
use Rattle.net_graph.specs.Values.{Sources}
use Rattle.net_action.specs.Gates.{Grows}
use Rattle.net_action.specs.Wires.{AreValues, is_up}
use Rattle.net_sched.specs.inner.Cycles.{AreFlags, JoinsFlags}
use Rattle.net_sched.proofs.log.joined_flags.Given as goal

abbrev pub invariant-loop-place : goal.invariant-loop-place
invariant-loop-place l = record {
  grows : (inputs : List ℕ) → Grows inputs l.fn.net l.net;
  flags : AreFlags l.net l.place l.flags;
  up : (s : Sources) (values : List BitVector) → AreValues s l.net values → JoinsFlags values l.sched l.rule (is_up values l.fires) l.place l.flags;
}
