use Rattle.std.proofs.Common.{◌≡◌, map, take}
use Rattle.typed_core.specs.declared.design.Rule.{Rule}
use Rattle.circuit_eval.specs.declared.circuit.OutputWire.{OutputWire}
use Rattle.net_sched.proofs.circuit.outputs.Given as goal

abbrev pub invariant-loop-number : goal.invariant-loop-number
invariant-loop-number l = record {
  names : map (λ (wire : OutputWire). wire.name) l.outputs ≡ map (λ (rule : Rule). rule.name) (take l.number l.rules);
  ids : map (λ (wire : OutputWire). wire.id) l.outputs ≡ take l.number l.fired;
}
