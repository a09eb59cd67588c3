use Rattle.std.proofs.Common.{ℕ, List, map, ap, ap₂, sym, subst, ◌∙◌}
use Rattle.circuit_eval.specs.Circuits.{IsCircuit}
use Rattle.circuit_eval.specs.declared.circuit.OutputWire.{OutputWire}
use Rattle.circuit_eval.specs.declared.circuit.StateWire.{StateWire}
use Rattle.circuit_eval.specs.declared.circuit.Wires.{Wires}
use Rattle.aig_blast.specs.Aigs.{IsAig}
use Rattle.aig_blast.specs.Blasted.{HasWires, RunsAs}
use Rattle.aig_blast.specs.inner.Nodes.{input_word, latch_word, output_bits}
use Rattle.aig_blast.proofs.Blasting.{has-wires, is-aig, nexts-within, outputs-within, parts-same, runs-as}
use Rattle.aig_blast.proofs.circuit.blast.Goals as goal

pub latch_words-requires : goal.latch_words-requires
latch_words-requires c =
    let valid : IsCircuit c.args.circuit.now = subst IsCircuit c.circuit.view_is c.circuit.invariant in
    nexts-within c.args.circuit.now c.in_ok-made.made.graph c.in_ok-made.made.words _ _ valid c.in_ok-made.ensures (c.as_slice-2.ensures ∙ ap (λ (w : Wires). w.states) c.circuit.view_is) c.as_slice-words.ensures

pub output_bits-requires : goal.output_bits-requires
output_bits-requires c =
    let valid : IsCircuit c.args.circuit.now = subst IsCircuit c.circuit.view_is c.circuit.invariant in
    outputs-within c.args.circuit.now c.in_ok-made.made.graph c.in_ok-made.made.words _ _ valid c.in_ok-made.ensures (c.as_slice-3.ensures ∙ ap (λ (w : Wires). w.outputs) c.circuit.view_is) c.as_slice-words.ensures

pub invariant_of-result : goal.invariant_of-result
invariant_of-result c =
    let wires : Wires = c.args.circuit.now in
    let valid : IsCircuit wires = subst IsCircuit c.circuit.view_is c.circuit.invariant in
    let words = c.in_ok-made.made.words in
    let same =
    parts-same wires c.in_ok-made.made.graph words c.in_ok-inputs.inputs c.in_ok-latches.latches c.in_ok-outputs.outputs c.in_ok-gates.gates
    (c.in_ok-inputs.ensures ∙ ap (map input_word) (c.as_slice.ensures ∙ ap (λ (w : Wires). w.inputs) c.circuit.view_is))
    (c.in_ok-latches.ensures ∙ ap₂ (λ (ws : List (List ℕ)) (ls : List StateWire). map (latch_word ws) ls) c.as_slice-words.ensures (c.as_slice-2.ensures ∙ ap (λ (w : Wires). w.states) c.circuit.view_is))
    (c.in_ok-outputs.ensures ∙ ap₂ (λ (ws : List (List ℕ)) (os : List OutputWire). output_bits ws os) c.as_slice-words.ensures (c.as_slice-3.ensures ∙ ap (λ (w : Wires). w.outputs) c.circuit.view_is))
    (c.in_ok-gates.ensures ∙ c.gates.ensures.gates) in
    subst IsAig (sym same) (is-aig wires c.in_ok-made.made.graph words valid c.in_ok-made.ensures c.requires.names)

pub returns-clause-wires : goal.returns-clause-wires
returns-clause-wires c =
    let wires : Wires = c.args.circuit.now in
    let valid : IsCircuit wires = subst IsCircuit c.circuit.view_is c.circuit.invariant in
    let words = c.in_ok-made.made.words in
    let same =
    parts-same wires c.in_ok-made.made.graph words c.in_ok-inputs.inputs c.in_ok-latches.latches c.in_ok-outputs.outputs c.in_ok-gates.gates
    (c.in_ok-inputs.ensures ∙ ap (map input_word) (c.as_slice.ensures ∙ ap (λ (w : Wires). w.inputs) c.circuit.view_is))
    (c.in_ok-latches.ensures ∙ ap₂ (λ (ws : List (List ℕ)) (ls : List StateWire). map (latch_word ws) ls) c.as_slice-words.ensures (c.as_slice-2.ensures ∙ ap (λ (w : Wires). w.states) c.circuit.view_is))
    (c.in_ok-outputs.ensures ∙ ap₂ (λ (ws : List (List ℕ)) (os : List OutputWire). output_bits ws os) c.as_slice-words.ensures (c.as_slice-3.ensures ∙ ap (λ (w : Wires). w.outputs) c.circuit.view_is))
    (c.in_ok-gates.ensures ∙ c.gates.ensures.gates) in
    subst (HasWires wires) (sym same) (has-wires wires c.in_ok-made.made.graph words valid c.in_ok-made.ensures)

pub returns-clause-run : goal.returns-clause-run
returns-clause-run c =
    let wires : Wires = c.args.circuit.now in
    let valid : IsCircuit wires = subst IsCircuit c.circuit.view_is c.circuit.invariant in
    let words = c.in_ok-made.made.words in
    let same =
    parts-same wires c.in_ok-made.made.graph words c.in_ok-inputs.inputs c.in_ok-latches.latches c.in_ok-outputs.outputs c.in_ok-gates.gates
    (c.in_ok-inputs.ensures ∙ ap (map input_word) (c.as_slice.ensures ∙ ap (λ (w : Wires). w.inputs) c.circuit.view_is))
    (c.in_ok-latches.ensures ∙ ap₂ (λ (ws : List (List ℕ)) (ls : List StateWire). map (latch_word ws) ls) c.as_slice-words.ensures (c.as_slice-2.ensures ∙ ap (λ (w : Wires). w.states) c.circuit.view_is))
    (c.in_ok-outputs.ensures ∙ ap₂ (λ (ws : List (List ℕ)) (os : List OutputWire). output_bits ws os) c.as_slice-words.ensures (c.as_slice-3.ensures ∙ ap (λ (w : Wires). w.outputs) c.circuit.view_is))
    (c.in_ok-gates.ensures ∙ c.gates.ensures.gates) in
    subst (RunsAs wires) (sym same) (runs-as wires c.in_ok-made.made.graph words valid c.in_ok-made.ensures)
