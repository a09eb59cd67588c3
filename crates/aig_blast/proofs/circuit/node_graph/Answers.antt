use Rattle.std.proofs.Common.{List, ap, sym, subst, ◌∙◌}
use Rattle.net_graph.specs.Values.{AllRead, Sources, values_of}
use Rattle.net_graph.specs.declared.node.NetOp.{NetOp}
use Rattle.circuit_eval.specs.Circuits.{IsCircuit}
use Rattle.circuit_eval.specs.declared.circuit.Wires.{Wires}
use Rattle.aig_blast.specs.Graphs.{Gates, IsGraph}
use Rattle.aig_blast.specs.inner.Nodes.{lengths}
use Rattle.aig_blast.proofs.Blasting.{AreWords-inputs, AreWords-states, made-by, reads-words}
use Rattle.aig_blast.proofs.NodeWords.{MakesNodes-as}
use Rattle.aig_blast.proofs.circuit.node_graph.Goals as goal

pub node_words-requires-clause-inputs : goal.node_words-requires-clause-inputs
node_words-requires-clause-inputs c =
    let valid : IsCircuit c.args.circuit.now = subst IsCircuit c.circuit.view_is c.circuit.invariant in
    AreWords-inputs c.args.circuit.now c.new-graph.result _ valid (ap (λ (g : Gates). g.sources) c.new-graph.ensures ∙ c.in_ok-sources.ensures.count) (c.as_slice-inputs.ensures ∙ c.in_ok-sources.ensures.inputs)

pub node_words-requires-clause-states : goal.node_words-requires-clause-states
node_words-requires-clause-states c =
    let valid : IsCircuit c.args.circuit.now = subst IsCircuit c.circuit.view_is c.circuit.invariant in
    AreWords-states c.args.circuit.now c.new-graph.result _ valid (ap (λ (g : Gates). g.sources) c.new-graph.ensures ∙ c.in_ok-sources.ensures.count) (c.as_slice-states.ensures ∙ c.in_ok-sources.ensures.states)

pub node_words-requires-clause-reads : goal.node_words-requires-clause-reads
node_words-requires-clause-reads c =
    let valid : IsCircuit c.args.circuit.now = subst IsCircuit c.circuit.view_is c.circuit.invariant in
    subst (λ (net : List NetOp). AllRead (lengths c.as_slice-inputs.result.now) (lengths c.as_slice-states.result.now) net) (sym (ap (λ (w : Wires). w.net) c.circuit.view_is))
    (reads-words c.args.circuit.now c.as_slice-inputs.result.now c.as_slice-states.result.now valid (c.as_slice-inputs.ensures ∙ c.in_ok-sources.ensures.inputs) (c.as_slice-states.ensures ∙ c.in_ok-sources.ensures.states))

pub returns : goal.returns
returns c =
    let valid : IsCircuit c.args.circuit.now = subst IsCircuit c.circuit.view_is c.circuit.invariant in
    made-by c.args.circuit.now c.new-graph.result c.node_words.new.graph c.as_slice-inputs.result.now c.as_slice-states.result.now c.in_ok-words.words valid
    (ap (λ (g : Gates). g.sources) c.new-graph.ensures ∙ c.in_ok-sources.ensures.count)
    (c.as_slice-inputs.ensures ∙ c.in_ok-sources.ensures.inputs)
    (c.as_slice-states.ensures ∙ c.in_ok-sources.ensures.states)
    (subst IsGraph c.graph.view_is c.graph.invariant)
    (MakesNodes-as _ _ _ _ _ _ _ (λ (s : Sources). ap (λ (w : Wires). values_of s w.net) c.circuit.view_is) c.in_ok-words.ensures)
