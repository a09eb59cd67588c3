-- The states and the outputs after a step, by what is kept of the nodes.
use Rattle.std.proofs.Common.{◌≡◌, ℕ, List, length, refl, sym, ◌∙◌, ap, subst, arith}
use Rattle.std.specs.Vec.{with_items}
use Rattle.std.proofs.lemmas.List.{with_items_is}
use Rattle.kw_bits.specs.BitVector.{BitVector}
use Rattle.net_graph.specs.Nets.{widths_of}
use Rattle.net_graph.specs.Values.{values_of}
use Rattle.circuit_eval.specs.Circuits.{AreBits, input_widths, IsCircuit, state_widths}
use Rattle.circuit_eval.specs.inner.Programs.{Keeps}
use Rattle.circuit_eval.specs.Programs.{kept_from}
use Rattle.circuit_eval.specs.Run.{next_states, outputs_in, values_in}
use Rattle.circuit_eval.specs.Simulations.{after_step, Simulation}
use Rattle.circuit_eval.specs.declared.circuit.Wires.{Wires}
use Rattle.circuit_eval.proofs.Kept.{IsStepped, keeps_read, stepped}
use Rattle.circuit_eval.proofs.word_sim.WordSim.step.Goals.{After-take_next}
use Rattle.circuit_eval.proofs.word_sim.WordSim.step.Goals as goal

words_are : (c : After-take_next) → (with_items c.self.inside.words c.run_steps.new.words).items ≡ c.run_steps.new.words
words_are c = with_items_is c.self.inside.words c.run_steps.new.words (omega (arith, c.run_steps.ensures.words, c.deref_mut.ensures.len, c.self.inside.words.ok.0))

wides_are : (c : After-take_next) → (with_items c.self.inside.wides c.run_steps.new.wides).items ≡ c.run_steps.new.wides
wides_are c = with_items_is c.self.inside.wides c.run_steps.new.wides (omega (arith, c.run_steps.ensures.wides, c.deref_mut-2.ensures.len, c.self.inside.wides.ok.0))

pub take_next-requires-clause-kept : goal.take_next-requires-clause-kept
take_next-requires-clause-kept c =
    let nodes : List BitVector = values_of (record { inputs = c.as_slice.result.now; states = c.self.inside.states }) c.circuit.inside.net in (
      nodes,
      keeps_read c.circuit.inside.net c.circuit.inside.net c.run_steps.new.words c.deref-2.result.now c.run_steps.new.wides c.deref-3.result.now nodes refl
          (c.deref-2.ensures.value ∙ with_items_is c.self.inside.words c.run_steps.new.words (omega (arith, c.run_steps.ensures.words, c.deref_mut.ensures.len, c.self.inside.words.ok.0)))
          (c.deref-3.ensures.value ∙ with_items_is c.self.inside.wides c.run_steps.new.wides (omega (arith, c.run_steps.ensures.wides, c.deref_mut-2.ensures.len, c.self.inside.wides.ok.0)))
          c.run_steps.ensures.keeps,
    )

kept_next : (c : After-take_next)
    → Keeps c.circuit.inside.net c.deref-2.result.now c.deref-3.result.now (values_of (record { inputs = c.as_slice.result.now; states = c.self.inside.states }) c.circuit.inside.net) (length c.circuit.inside.net)
kept_next c =
    keeps_read c.circuit.inside.net c.circuit.inside.net c.run_steps.new.words c.deref-2.result.now c.run_steps.new.wides c.deref-3.result.now
    (values_of (record { inputs = c.as_slice.result.now; states = c.self.inside.states }) c.circuit.inside.net) refl (c.deref-2.ensures.value ∙ words_are c) (c.deref-3.ensures.value ∙ wides_are c) c.run_steps.ensures.keeps

-- the values are those of the circuit, its inputs and its states
same_values : (c : After-take_next)
    → values_of (record { inputs = c.as_slice.result.now; states = c.self.inside.states }) c.circuit.inside.net ≡ values_in c.self.inside.circuit.now c.args.inputs.now c.self.inside.states
same_values c =
    ap (λ (inputs : List BitVector). values_of (record { inputs = inputs; states = c.self.inside.states }) c.circuit.inside.net) c.as_slice.ensures
    ∙ ap (λ (w : Wires). values_in w c.args.inputs.now c.self.inside.states) c.circuit.view_is

done : (c : After-take_next)
    → IsStepped c.self.inside.circuit.now c.args.inputs.now c.self.inside.states (with_items c.self.inside.words c.run_steps.new.words).items (with_items c.self.inside.wides c.run_steps.new.wides).items
done c =
    let wires : Wires = c.self.inside.circuit.now in
    let valid : IsCircuit wires = subst IsCircuit c.circuit.view_is c.circuit.invariant in
    let given : AreBits c.args.inputs.now (input_widths wires.inputs) = subst (λ (s : Simulation). AreBits c.args.inputs.now (input_widths s.circuit.inputs)) (sym c.self.view_is) c.requires in
    let words : List ℕ = (with_items c.self.inside.words c.run_steps.new.words).items in
    let wides : List BitVector = (with_items c.self.inside.wides c.run_steps.new.wides).items in
    stepped wires c.args.inputs.now c.self.inside.states words wides valid given c.self.invariant.0
    (subst (λ (vs : List BitVector). Keeps wires.net words wides vs (length wires.net)) (same_values c)
    (keeps_read c.circuit.inside.net wires.net c.run_steps.new.words words c.run_steps.new.wides wides
    (values_of (record { inputs = c.as_slice.result.now; states = c.self.inside.states }) c.circuit.inside.net) (sym (ap (λ (w : Wires). w.net) c.circuit.view_is)) (words_are c) (wides_are c) c.run_steps.ensures.keeps))

states : (c : After-take_next) → c.take_next.new.self ≡ next_states c.self.inside.circuit.now.states (values_in c.self.inside.circuit.now c.args.inputs.now c.self.inside.states)
states c =
    let nodes : List BitVector = values_of (record { inputs = c.as_slice.result.now; states = c.self.inside.states }) c.circuit.inside.net in
    c.take_next.ensures nodes (kept_next c) ∙ ap (λ wires. next_states wires nodes) (c.as_slice-2.ensures ∙ ap (λ (w : Wires). w.states) c.circuit.view_is)
    ∙ ap (next_states c.self.inside.circuit.now.states) (same_values c)

pub invariant_of-self : goal.invariant_of-self
invariant_of-self c =
    let at = (goal.at.invariant_of-self c).After-take_next in
    let wires : Wires = c.self.inside.circuit.now in
    let words : length (with_items c.self.inside.words c.run_steps.new.words).items ≡ length c.self.inside.words.items =
    omega (arith, ap length (words_are at), c.run_steps.ensures.words, c.deref_mut.ensures.len, c.self.inside.words.ok.0) in
    let wides : length (with_items c.self.inside.wides c.run_steps.new.wides).items ≡ length c.self.inside.wides.items =
    omega (arith, ap length (wides_are at), c.run_steps.ensures.wides, c.deref_mut-2.ensures.len, c.self.inside.wides.ok.0) in (
      subst (λ (nodes : List BitVector). AreBits nodes (state_widths wires.states)) (sym (states at)) (done at).states_fit,
      c.self.invariant.1,
      record { each = words ∙ c.self.invariant.2.each; wide = λ id h w. omega (arith, wides, c.self.invariant.2.wide id h w) },
      (done at).nodes_fit,
      c.self.invariant.4,
    )

pub returns : goal.returns
returns c =
    let at = (goal.at.returns c).After-take_next in
    let circuit : Wires = c.self.inside.circuit.now in
    let outputs : List BitVector = outputs_in circuit.outputs (kept_from (widths_of circuit.net) c.self.inside.words.items c.self.inside.wides.items 0) in
    let before : Simulation = record { circuit = circuit; states = c.self.inside.states; outputs = outputs } in
    let words : List ℕ = (with_items c.self.inside.words c.run_steps.new.words).items in
    let wides : List BitVector = (with_items c.self.inside.wides c.run_steps.new.wides).items in
    let after : Simulation = record { circuit = circuit; states = c.take_next.new.self; outputs = outputs_in circuit.outputs (kept_from (widths_of circuit.net) words wides 0) } in
    let same : after ≡ after_step before c.args.inputs.now = (λ i. record { circuit = circuit; states = states at i; outputs = outputs_in circuit.outputs ((done at).nodes i) }) in
    same ∙ ap (λ (s : Simulation). after_step s c.args.inputs.now) c.self.view_is
