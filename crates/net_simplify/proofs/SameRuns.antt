-- A circuit over another net, in which nodes stand for its next values and outputs, has the same run.
use Rattle.std.proofs.Common.{◌≡◌, ℕ, zero, suc, ◌+◌, List, [], ◌∷◌, length, map, get_or, refl, sym, ap, ap₂, subst, ◌∙◌}
use Rattle.std.specs.List.{All}
use Rattle.std.proofs.lemmas.List.Elements.{All-head, All-map, All-tail}
use Rattle.std.proofs.lemmas.Simd.{map-map}
use Rattle.kw_bits.specs.BitVector.{BitVector}
use Rattle.net_graph.specs.Nets.{IsNet, width_at, widths_of}
use Rattle.net_graph.specs.Values.{AllRead, Sources, value_at, values_of}
use Rattle.net_graph.specs.declared.node.NetOp.{NetOp}
use Rattle.one_rule.specs.Run.{InputsByCycle}
use Rattle.one_rule.specs.Stimulus.{AlwaysFits, InputVectors, inputs_of}
use Rattle.one_rule.specs.declared.rows.Row.{Row}
use Rattle.circuit_eval.specs.Circuits.{AreBits, input_widths, IsCircuit, IsOutput, IsState, state_widths}
use Rattle.circuit_eval.specs.Run.{first_row, first_states, flags, next_states, outputs_in, row_after, rows_after, values_in, zero_outputs}
use Rattle.circuit_eval.specs.Simulations.{after_steps, Simulation}
use Rattle.circuit_eval.specs.declared.circuit.InputWire.{InputWire}
use Rattle.circuit_eval.specs.declared.circuit.OutputWire.{OutputWire}
use Rattle.circuit_eval.specs.declared.circuit.StateWire.{StateWire}
use Rattle.circuit_eval.specs.declared.circuit.Wires.{Wires}
use Rattle.circuit_eval.proofs.Fitting.{first_states-AreBits, next_states-AreBits, step_feeds}
use Rattle.circuit_eval.proofs.Stimuli.{HaveWidths-AreBits}
use Rattle.net_simplify.specs.inner.Forms.{IsLean}
use Rattle.net_simplify.specs.Kept.{HasOutputsOf, Keeps, RunsAs}
use Rattle.net_simplify.specs.inner.Passes.{IsSimpler, moved_output, moved_state, nth, ReadsOnly, Reduces, rewired, StandsFor}

-- what a net and places have to keep of a circuit
pub record Carries (c : Wires) (net : List NetOp) (places : List ℕ) : Type 0 where
  pub is_net : IsNet net
  pub reads : ReadsOnly c.net net
  pub states : All (λ (wire : StateWire). StandsFor c.net wire.next net (nth places wire.next)) c.states
  pub outputs : All (λ (wire : OutputWire). StandsFor c.net wire.id net (nth places wire.id)) c.outputs

-- a net that the nodes of a circuit's net have places in does
pub reduced_carries : (c : Wires) (net : List NetOp) (places : List ℕ) → IsCircuit c → Reduces c.net (length c.net) net places → Carries c net places
reduced_carries c net places valid reduces = record {
  is_net = reduces.lean.is_net;
  reads = reduces.reads;
  states = λ k d h. reduces.each (get_or c.states k d).next (valid.states k d h).next;
  outputs = λ k d h. reduces.each (get_or c.outputs k d).id (valid.outputs k d h);
}

-- functions that agree on the items of a list
map_agree : {X Y : Type 0} (f g : X → Y) (xs : List X) → All (λ x. f x ≡ g x) xs → map f xs ≡ map g xs
map_agree f g [] h = refl
map_agree f g (x ∷ xs) h = ap₂ (λ y ys. y ∷ ys) (All-head (λ x. f x ≡ g x) x xs h) (map_agree f g xs (All-tail (λ x. f x ≡ g x) x xs h))

module _ (c : Wires) (valid : IsCircuit c) (net : List NetOp) (places : List ℕ) (carries : Carries c net places) where
  abbrev new : Wires
  new = rewired net places c

  -- ---- what states and outputs have

  of_states : {Y : Type 0} (f g : StateWire → Y) → All (λ wire. f (moved_state places wire) ≡ g wire) c.states → map f new.states ≡ map g c.states
  of_states f g h = map-map f (moved_state places) c.states ∙ map_agree (λ wire. f (moved_state places wire)) g c.states h

  of_outputs : {Y : Type 0} (f g : OutputWire → Y) → All (λ wire. f (moved_output places wire) ≡ g wire) c.outputs → map f new.outputs ≡ map g c.outputs
  of_outputs f g h = map-map f (moved_output places) c.outputs ∙ map_agree (λ wire. f (moved_output places wire)) g c.outputs h

  same_widths : state_widths new.states ≡ state_widths c.states
  same_widths = of_states (λ (wire : StateWire). wire.width) (λ (wire : StateWire). wire.width) (λ k d h. refl)

  same_firsts : first_states new.states ≡ first_states c.states
  same_firsts = of_states (λ (wire : StateWire). wire.first) (λ (wire : StateWire). wire.first) (λ k d h. refl)

  -- ---- the circuit

  pub rewired_circuit : IsCircuit new
  rewired_circuit = record {
    net = carries.is_net;
    reads = subst (λ (ws : List ℕ). AllRead (input_widths c.inputs) ws net) (sym same_widths) (carries.reads (input_widths c.inputs) (state_widths c.states) valid.reads);
    states = All-map (IsState net) (moved_state places) c.states (λ k d h.
        let was = valid.states k d h in
        let now = carries.states k d h in
        record { first = was.first; next = now.stands; next_width = now.width ∙ was.next_width });
    inputs = valid.inputs;
    outputs = All-map (IsOutput net) (moved_output places) c.outputs (λ k d h. (carries.outputs k d h).stands);
  }

  pub rewired_keeps : Keeps c new
  rewired_keeps = record {
    inputs = refl;
    states = of_states (λ (wire : StateWire). wire.name) (λ (wire : StateWire). wire.name) (λ k d h. refl);
    state_widths = same_widths;
    first_states = same_firsts;
    outputs = of_outputs (λ (wire : OutputWire). wire.name) (λ (wire : OutputWire). wire.name) (λ k d h. refl);
    output_widths = of_outputs (λ (wire : OutputWire). width_at (widths_of net) wire.id) (λ (wire : OutputWire). width_at (widths_of c.net) wire.id) (λ k d h. (carries.outputs k d h).width);
  }

  -- ---- the run

  same_regs : (inputs now : List BitVector) → AreBits inputs (input_widths c.inputs) → AreBits now (state_widths c.states) → next_states new.states (values_in new inputs now) ≡ next_states c.states (values_in c inputs now)
  same_regs inputs now given fit =
      let s : Sources = record { inputs = inputs; states = now } in
      of_states (λ (wire : StateWire). value_at (values_of s net) wire.next) (λ (wire : StateWire). value_at (values_of s c.net) wire.next) (λ k d h. (carries.states k d h).value s (step_feeds c inputs now valid given fit))

  same_outputs : (inputs now : List BitVector) → AreBits inputs (input_widths c.inputs) → AreBits now (state_widths c.states) → outputs_in new.outputs (values_in new inputs now) ≡ outputs_in c.outputs (values_in c inputs now)
  same_outputs inputs now given fit =
      let s : Sources = record { inputs = inputs; states = now } in
      of_outputs (λ (wire : OutputWire). value_at (values_of s net) wire.id) (λ (wire : OutputWire). value_at (values_of s c.net) wire.id) (λ k d h. (carries.outputs k d h).value s (step_feeds c inputs now valid given fit))

  same_row : (inputs now : List BitVector) → AreBits inputs (input_widths c.inputs) → AreBits now (state_widths c.states) → row_after new inputs now ≡ row_after c inputs now
  same_row inputs now given fit =
      let regs = same_regs inputs now given fit in
      let outputs = same_outputs inputs now given fit in
      λ i. record { regs = regs i; fired = flags (outputs i) }

  same_rows : (inputs : InputsByCycle) → ((cycle : ℕ) → AreBits (inputs cycle) (input_widths c.inputs)) → (n last : ℕ) (now : List BitVector) → AreBits now (state_widths c.states) → rows_after new inputs n last now ≡ rows_after c inputs n last now
  unfolding rows_after
  same_rows inputs given zero last now fit = refl
  same_rows inputs given (suc n) last now fit =
      let row : Row = row_after c (inputs (last + 1)) now in
      ap (λ (r : Row). r ∷ rows_after new inputs n (last + 1) r.regs) (same_row (inputs (last + 1)) now (given (last + 1)) fit)
      ∙ ap (λ (rows : List Row). row ∷ rows) (same_rows inputs given n (last + 1) row.regs (next_states-AreBits c (inputs (last + 1)) now valid (given (last + 1)) fit))

  same_zeros : zero_outputs (widths_of net) new.outputs ≡ zero_outputs (widths_of c.net) c.outputs
  same_zeros =
      of_outputs (λ (wire : OutputWire). record { width = width_at (widths_of net) wire.id; number = 0 }) (λ (wire : OutputWire). record { width = width_at (widths_of c.net) wire.id; number = 0 })
      (λ k d h. ap (λ (w : ℕ). record { width = w; number = 0 }) (carries.outputs k d h).width)

  same_first : first_row new ≡ first_row c
  same_first = λ i. record { regs = same_firsts i; fired = flags (same_zeros i) }

  abbrev given_by : (stimulus : InputVectors) → stimulus.widths ≡ input_widths c.inputs → AlwaysFits stimulus → (cycle : ℕ) → AreBits (inputs_of stimulus cycle) (input_widths c.inputs)
  given_by stimulus widths fits cycle = subst (AreBits (inputs_of stimulus cycle)) widths (HaveWidths-AreBits stimulus.widths (inputs_of stimulus cycle) (fits cycle))

  abbrev moment : Wires → List BitVector → List BitVector → Simulation
  moment wires now outputs = record { circuit = wires; states = now; outputs = outputs }

  same_steps : (inputs : InputsByCycle) → ((cycle : ℕ) → AreBits (inputs cycle) (input_widths c.inputs)) → (n last : ℕ) (now outputs : List BitVector) → AreBits now (state_widths c.states)
      → (after_steps inputs n last (moment new now outputs)).outputs ≡ (after_steps inputs n last (moment c now outputs)).outputs
  unfolding after_steps
  same_steps inputs given zero last now outputs fit = refl
  same_steps inputs given (suc n) last now outputs fit =
      let input = inputs (last + 1) in
      ap₂ (λ (rs os : List BitVector). (after_steps inputs n (last + 1) (moment new rs os)).outputs) (same_regs input now (given (last + 1)) fit) (same_outputs input now (given (last + 1)) fit)
      ∙ same_steps inputs given n (last + 1) (next_states c.states (values_in c input now)) (outputs_in c.outputs (values_in c input now)) (next_states-AreBits c input now valid (given (last + 1)) fit)

  pub rewired_outputs : HasOutputsOf c new
  rewired_outputs stimulus n widths fits =
      ap₂ (λ (rs os : List BitVector). (after_steps (inputs_of stimulus) n 0 (moment new rs os)).outputs) same_firsts same_zeros
      ∙ same_steps (inputs_of stimulus) (given_by stimulus widths fits) n 0 (first_states c.states) (zero_outputs (widths_of c.net) c.outputs) (first_states-AreBits c valid)

  pub rewired_runs : RunsAs c new
  rewired_runs stimulus n widths fits =
      ap₂ (λ (r : Row) (rows : List Row). r ∷ rows) same_first
      (ap (rows_after new (inputs_of stimulus) n 0) same_firsts ∙ same_rows (inputs_of stimulus) (given_by stimulus widths fits) n 0 (first_states c.states) (first_states-AreBits c valid))

  pub rewired_simpler : IsLean net → IsSimpler c new
  rewired_simpler lean = record { circuit = rewired_circuit; lean = lean; kept = rewired_keeps; run = rewired_runs; outputs = rewired_outputs }

-- ---- twice

pub keeps-twice : (a b c : Wires) → Keeps a b → Keeps b c → Keeps a c
keeps-twice a b c h k = record {
  inputs = k.inputs ∙ h.inputs;
  states = k.states ∙ h.states;
  state_widths = k.state_widths ∙ h.state_widths;
  first_states = k.first_states ∙ h.first_states;
  outputs = k.outputs ∙ h.outputs;
  output_widths = k.output_widths ∙ h.output_widths;
}

pub runs-twice : (a b c : Wires) → Keeps a b → RunsAs a b → RunsAs b c → RunsAs a c
runs-twice a b c kept h k stimulus n widths fits =
    k stimulus n (widths ∙ ap input_widths (sym kept.inputs)) fits ∙ h stimulus n widths fits

pub outputs-twice : (a b c : Wires) → Keeps a b → HasOutputsOf a b → HasOutputsOf b c → HasOutputsOf a c
outputs-twice a b c kept h k stimulus n widths fits =
    k stimulus n (widths ∙ ap input_widths (sym kept.inputs)) fits ∙ h stimulus n widths fits

-- ---- wires over a net

-- wires that were made of equal parts
pub made : (c : Wires) (net : List NetOp) (places moved : List ℕ) (states : List StateWire) (inputs : List InputWire) (outputs : List OutputWire) → moved ≡ places → states ≡ c.states → inputs ≡ c.inputs → outputs ≡ c.outputs
    → record { net = net; states = map (moved_state moved) states; inputs = inputs; outputs = map (moved_output moved) outputs } ≡ rewired net places c
made c net places moved states inputs outputs p s n o i = record { net = net; states = map (moved_state (p i)) (s i); inputs = n i; outputs = map (moved_output (p i)) (o i) }
