use Rattle.std.proofs.Common.{List, ◌++◌, All, sym, ap₂, subst, ◌∙◌}
use Rattle.circuit_eval.specs.Circuits.{IsOutput}
use Rattle.circuit_eval.specs.declared.circuit.OutputWire.{OutputWire}
use Rattle.koika_top.specs.inner.CircuitRuns.{chosen}
use Rattle.koika_top.proofs.ChosenOutputs.{chosen-stand}
use Rattle.koika_top.proofs.text_circuit.parted.Goals as goal

pub invariant_of-circuit : goal.invariant_of-circuit
invariant_of-circuit c =
    let own = c.mixed.invariant in
    let kept = c.in_ok-push_chosen.ensures ∙ ap₂ (λ (front wires : List OutputWire). front ++ chosen c.args.mask.now wires) c.new-kept.ensures c.as_slice.ensures in
    record {
      net = own.net;
      reads = own.reads;
      states = own.states;
      inputs = own.inputs;
      outputs = subst (All (IsOutput c.mixed.inside.net)) (sym kept) (chosen-stand c.mixed.inside.net c.args.mask.now c.mixed.inside.outputs own.outputs);
    }

pub invariant_of-circuit-2 : goal.invariant_of-circuit-2
invariant_of-circuit-2 c =
    let own = c.mixed.invariant in
    let kept = c.in_ok-push_chosen.ensures ∙ ap₂ (λ (front wires : List OutputWire). front ++ chosen c.args.mask.now wires) c.new-kept.ensures c.as_slice.ensures in
    record {
      net = own.net;
      reads = own.reads;
      states = own.states;
      inputs = own.inputs;
      outputs = subst (All (IsOutput c.mixed.inside.net)) (sym kept) (chosen-stand c.mixed.inside.net c.args.mask.now c.mixed.inside.outputs own.outputs);
    }
