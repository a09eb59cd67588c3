use Rattle.std.proofs.Common.{◌≡◌, ℕ, List, length, sym, ap, subst, ◌∙◌}
use Rattle.net_graph.specs.declared.node.NetOp.{NetOp}
use Rattle.circuit_eval.specs.Circuits.{IsCircuit}
use Rattle.circuit_eval.specs.declared.circuit.Wires.{Wires}
use Rattle.net_simplify.specs.inner.Passes.{IsSimpler, Reduces, rewired}
use Rattle.net_simplify.proofs.SameRuns.{made, reduced_carries, rewired_simpler}
use Rattle.net_simplify.proofs.circuit.simpler_wires.Goals as goal

pub returns : goal.returns
returns c =
    let circuit : Wires = c.args.circuit.now in
    let net : List NetOp = c.in_ok-net.field-0.net in
    let places : List ℕ = c.in_ok-net.field-0.places.items in
    let valid : IsCircuit circuit = subst IsCircuit c.circuit.view_is c.circuit.invariant in
    let ops : c.ops.result.now ≡ circuit.net = c.ops.ensures.ops ∙ ap (λ (w : Wires). w.net) c.circuit.view_is in
    let reduces : Reduces circuit.net (length circuit.net) net places = subst (λ (old : List NetOp). Reduces old (length old) net places) ops c.in_ok-net.ensures in
    let wires : c.in_ok-wires.wires ≡ rewired net places circuit =
    c.in_ok-wires.ensures ∙ made circuit net places c.deref.result.now c.as_slice.result.now c.as_slice-2.result.now c.as_slice-3.result.now c.deref.ensures.value
    (c.as_slice.ensures ∙ ap (λ (w : Wires). w.states) c.circuit.view_is) (c.as_slice-2.ensures ∙ ap (λ (w : Wires). w.inputs) c.circuit.view_is) (c.as_slice-3.ensures ∙ ap (λ (w : Wires). w.outputs) c.circuit.view_is) in
    subst (IsSimpler circuit) (sym wires) (rewired_simpler circuit valid net places (reduced_carries circuit net places valid reduces) reduces.lean)
