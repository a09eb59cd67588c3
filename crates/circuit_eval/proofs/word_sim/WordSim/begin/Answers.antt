-- What is kept before the first step.
use Rattle.std.proofs.Common.{◌≡◌, ℕ, ◌<◌, List, length, map, sym, ◌∙◌, ap, subst, arith}
use Rattle.std.specs.Prelude.{All}
use Rattle.std.proofs.lemmas.List.{length-map}
use Rattle.kw_bits.specs.BitVector.{BitVector, zero_at}
use Rattle.net_graph.specs.Nets.{widths_of}
use Rattle.net_graph.specs.Values.{value_at}
use Rattle.net_graph.specs.declared.node.NetOp.{NetOp}
use Rattle.circuit_eval.specs.Circuits.{AreBits, IsCircuit, state_widths}
use Rattle.circuit_eval.specs.Programs.{IsLaidOut, kept_from, node_width}
use Rattle.circuit_eval.specs.Run.{first_states, flag_nodes, outputs_in, zero_outputs}
use Rattle.circuit_eval.specs.declared.circuit.OutputWire.{OutputWire}
use Rattle.circuit_eval.specs.declared.circuit.Wires.{Wires}
use Rattle.circuit_eval.proofs.Fitting.{first_states-AreBits}
use Rattle.circuit_eval.proofs.Kept.{length-widths_of, zero_outputs_are, zeros_are, zeros_kept}
use Rattle.circuit_eval.proofs.word_sim.WordSim.begin.Goals.{In_ok-zero_wides}
use Rattle.circuit_eval.proofs.word_sim.WordSim.begin.Goals as goal

wide_zeros : (c : In_ok-zero_wides) → (id : ℕ) → id < length c.args.circuit.now.net → 64 < node_width c.args.circuit.now.net id
    → (id < length c.in_ok-zero_wides.field-0.items) × (value_at c.in_ok-zero_wides.field-0.items id ≡ zero_at (node_width c.args.circuit.now.net id))
wide_zeros c =
    let wides : List BitVector = c.in_ok-zero_wides.field-0.items in
    subst (λ (w : Wires). (id : ℕ) → id < length w.net → 64 < node_width w.net id → (id < length wides) × (value_at wides id ≡ zero_at (node_width w.net id)))
    c.circuit.view_is c.in_ok-zero_wides.ensures.wide

-- the zeros of the nodes
zeros : (c : In_ok-zero_wides) → kept_from (widths_of c.args.circuit.now.net) c.in_ok-zero_words.field-0.items c.in_ok-zero_wides.field-0.items 0 ≡ map zero_at (widths_of c.args.circuit.now.net)
zeros c =
    let net : List NetOp = c.args.circuit.now.net in
    let wides : List BitVector = c.in_ok-zero_wides.field-0.items in
    ap (λ (words : List ℕ). kept_from (widths_of net) words wides 0) (c.in_ok-zero_words.ensures ∙ ap (λ (w : Wires). map (λ (op : NetOp). 0) w.net) c.circuit.view_is)
    ∙ zeros_kept net wides (wide_zeros c)

states : (c : In_ok-zero_wides) → c.in_ok-first.field-0 ≡ first_states c.args.circuit.now.states
states c = c.in_ok-first.ensures ∙ ap first_states (c.as_slice.ensures ∙ ap (λ (w : Wires). w.states) c.circuit.view_is)

pub invariant_of-result : goal.invariant_of-result
invariant_of-result c =
    let at = (goal.at.invariant_of-result c).In_ok-zero_wides in
    let wires : Wires = c.args.circuit.now in
    let valid : IsCircuit wires = subst IsCircuit c.circuit.view_is c.circuit.invariant in (
      subst (λ (values : List BitVector). AreBits values (state_widths wires.states)) (sym (states at)) (first_states-AreBits wires valid),
      subst (λ (w : Wires). IsLaidOut w.net c.in_ok-lay_out.field-0.items) c.circuit.view_is c.in_ok-lay_out.ensures,
      record {
        each = ap length c.in_ok-zero_words.ensures ∙ length-map c.circuit.inside.net (λ (op : NetOp). 0) ∙ ap (λ (w : Wires). length w.net) c.circuit.view_is;
        wide = λ id h w. (wide_zeros at id h w).0;
      },
      subst (λ (values : List BitVector). AreBits values (widths_of wires.net)) (sym (zeros at)) (zeros_are wires.net valid.net),
      c.in_ok-flag_nodes.ensures ∙ ap (flag_nodes (widths_of c.circuit.inside.net)) c.as_slice-2.ensures ∙ ap (λ (w : Wires). flag_nodes (widths_of w.net) w.outputs) c.circuit.view_is,
    )

pub returns : goal.returns
returns c =
    let at = (goal.at.returns c).In_ok-zero_wides in
    let wires : Wires = c.args.circuit.now in
    let valid : IsCircuit wires = subst IsCircuit c.circuit.view_is c.circuit.invariant in
    let stand : All (λ (wire : OutputWire). wire.id < length (widths_of wires.net)) wires.outputs = λ k d h. omega (arith, valid.outputs k d h, length-widths_of wires.net) in
    let outputs : outputs_in wires.outputs (kept_from (widths_of wires.net) c.in_ok-zero_words.field-0.items c.in_ok-zero_wides.field-0.items 0) ≡ zero_outputs (widths_of wires.net) wires.outputs =
    ap (outputs_in wires.outputs) (zeros at) ∙ zero_outputs_are (widths_of wires.net) wires.outputs stand in
    (λ i. record { circuit = wires; states = states at i; outputs = outputs i })
