use Rattle.std.proofs.Common.{List, All, sym, ap, subst}
use Rattle.std.proofs.lemmas.List.Elements.{All-append}
use Rattle.circuit_eval.specs.Circuits.{IsOutput}
use Rattle.circuit_eval.specs.declared.circuit.Wires.{Wires}
use Rattle.net_graph.specs.declared.node.NetOp.{NetOp}
use Rattle.koika_top.proofs.ChosenOutputs.{chosen-stand}
use Rattle.koika_top.proofs.text_circuit.with_more.Goals as goal

pub invariant_of-result : goal.invariant_of-result
invariant_of-result c =
    let own = c.circuit.invariant in
    let net : List NetOp = c.circuit.inside.net in
    let stand = subst (λ (ops : List NetOp). All (IsOutput ops) c.args.wires.now) (sym (ap (λ (w : Wires). w.net) c.circuit.view_is)) c.requires.stand in
    record {
      net = own.net;
      reads = own.reads;
      states = own.states;
      inputs = own.inputs;
      outputs = subst (All (IsOutput net)) (sym c.in_ok-push_chosen.ensures) (All-append (IsOutput net) _ _ own.outputs (chosen-stand net c.args.mask.now c.args.wires.now stand));
    }
