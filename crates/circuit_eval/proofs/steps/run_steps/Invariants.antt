use Rattle.std.proofs.Common.{◌≡◌, length}
use Rattle.net_graph.specs.Values.{values_of}
use Rattle.circuit_eval.specs.Programs.{HasRoom}
use Rattle.circuit_eval.specs.inner.Programs.{Keeps}
use Rattle.circuit_eval.proofs.steps.run_steps.Given as goal

-- what is kept of the nodes so far are their values
abbrev pub invariant-loop-id : goal.invariant-loop-id
invariant-loop-id l =
    (length l.words ≡ length l.fn.words) × (length l.wides ≡ length l.fn.wides) × HasRoom l.net l.words l.wides × Keeps l.net l.words l.wides (values_of (record { inputs = l.inputs; states = l.states }) l.net) l.id
