use Rattle.std.proofs.Common.{ℕ, List, Option, map, sym, ap, ap₂, subst, ◌∙◌}
use Rattle.circuit_eval.specs.Circuits.{IsCircuit}
use Rattle.circuit_eval.specs.declared.circuit.Wires.{Wires}
use Rattle.aig_blast.specs.inner.Nodes.{Made}
use Rattle.aig_blast.specs.inner.Trims.{moved}
use Rattle.aig_blast.proofs.Blasting.{nexts-within, outputs-within}
use Rattle.aig_blast.proofs.Trimming.{Made-moved, nexts-placed, outputs-placed}
use Rattle.aig_blast.proofs.circuit.trimmed.Goals as goal

pub needed_variables-requires-clause-states : goal.needed_variables-requires-clause-states
needed_variables-requires-clause-states c =
    let valid : IsCircuit c.args.circuit.now = subst IsCircuit c.circuit.view_is c.circuit.invariant in
    nexts-within c.args.circuit.now c.args.whole.graph c.args.whole.words _ _ valid c.requires (c.as_slice-states.ensures ∙ ap (λ (w : Wires). w.states) c.circuit.view_is) c.as_slice.ensures

pub needed_variables-requires-clause-outputs : goal.needed_variables-requires-clause-outputs
needed_variables-requires-clause-outputs c =
    let valid : IsCircuit c.args.circuit.now = subst IsCircuit c.circuit.view_is c.circuit.invariant in
    outputs-within c.args.circuit.now c.args.whole.graph c.args.whole.words _ _ valid c.requires (c.as_slice-outputs.ensures ∙ ap (λ (w : Wires). w.outputs) c.circuit.view_is) c.as_slice.ensures

pub are_nexts_placed-requires : goal.are_nexts_placed-requires
are_nexts_placed-requires c =
    let valid : IsCircuit c.args.circuit.now = subst IsCircuit c.circuit.view_is c.circuit.invariant in
    nexts-within c.args.circuit.now c.args.whole.graph c.args.whole.words _ _ valid c.requires (c.as_slice-states.ensures ∙ ap (λ (w : Wires). w.states) c.circuit.view_is) c.as_slice-2.ensures

pub are_outputs_placed-requires : goal.are_outputs_placed-requires
are_outputs_placed-requires c =
    let valid : IsCircuit c.args.circuit.now = subst IsCircuit c.circuit.view_is c.circuit.invariant in
    outputs-within c.args.circuit.now c.args.whole.graph c.args.whole.words _ _ valid c.requires (c.as_slice-outputs.ensures ∙ ap (λ (w : Wires). w.outputs) c.circuit.view_is) c.as_slice-3.ensures

pub returns : goal.returns
returns c =
    let copy = c.in_ok-copy.copy in
    let words : List (List ℕ) = c.args.whole.words in
    let moved_is = c.in_ok-words.ensures ∙ ap₂ (λ (ps : List (Option ℕ)) (ws : List (List ℕ)). map (map (moved ps)) ws) c.deref-4.ensures.value c.as_slice-4.ensures in
    subst (Made c.args.circuit.now copy.graph) (sym moved_is)
    (Made-moved c.args.circuit.now c.args.whole.graph copy.graph copy.places.items words c.requires c.in_ok-copy.ensures.graph c.in_ok-copy.ensures.places
    (nexts-placed copy.places.items c.deref-2.result.now words c.as_slice-2.result.now c.args.circuit.now.states c.as_slice-states.result.now
    c.deref-2.ensures.value c.as_slice-2.ensures (c.as_slice-states.ensures ∙ ap (λ (w : Wires). w.states) c.circuit.view_is) (c.are_nexts_placed.ensures c.if-not-are_nexts_placed.false))
    (outputs-placed copy.places.items c.deref-3.result.now words c.as_slice-3.result.now c.args.circuit.now.outputs c.as_slice-outputs.result.now
    c.deref-3.ensures.value c.as_slice-3.ensures (c.as_slice-outputs.ensures ∙ ap (λ (w : Wires). w.outputs) c.circuit.view_is) (c.are_outputs_placed.ensures c.if-not-are_outputs_placed.false)))
