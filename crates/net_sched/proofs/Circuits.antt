-- The wires that were made of a design are those of its circuit.
use Rattle.std.proofs.Common.{◌≡◌, ℕ, ◌<◌, List, length, sym, ap, ◌∙◌, subst, arith, All, Option, Some}
use Rattle.std.specs.Prelude.{slice_index_or, IfSome}
use Rattle.std.proofs.lemmas.List.{get_or-map, length-map}
use Rattle.net_graph.specs.Nets.{IsNet}
use Rattle.net_graph.specs.Values.{AllRead}
use Rattle.typed_core.specs.Valid.{IsValid}
use Rattle.typed_core.specs.Widths as design
use Rattle.typed_core.specs.declared.design.Parts.{Parts}
use Rattle.circuit_eval.specs.Circuits.{IsCircuit, IsState, input_widths}
use Rattle.circuit_eval.specs.declared.circuit.OutputWire.{OutputWire}
use Rattle.circuit_eval.specs.declared.circuit.StateWire.{StateWire}
use Rattle.circuit_eval.specs.declared.circuit.Wires.{Wires}
use Rattle.net_action.specs.Wires.{HasWire}
use Rattle.net_action.proofs.Growth.{wire_inside, wire_width}
use Rattle.net_sched.specs.inner.Cycles.{nth}
use Rattle.net_sched.specs.Designs.{HasParts}
use Rattle.net_sched.specs.inner.Designs.{AreWiresOf}
use Rattle.net_sched.specs.inner.Made.{AreEnds, AreNamed}
use Rattle.net_sched.proofs.Rows.{runs_as}

-- what was made of a design's registers, inputs and rules, with these wires for the next values and for the flags
pub record IsMade (d : Parts) (c : Wires) (nexts fired : List ℕ) : Type 0 where
  pub net : IsNet c.net
  pub reads : AllRead (design.input_widths d) (design.register_widths d) c.net
  pub ends : AreEnds d c.net nexts fired
  pub named : AreNamed d nexts fired c

module _ (d : Parts) (c : Wires) (nexts fired : List ℕ) (made : IsMade d c nexts fired) where
  state_stands : All (IsState c.net) c.states
  state_stands k e within =
      let wire : StateWire = slice_index_or c.states k e in
      let inside : k < length (design.register_widths d) = omega (arith, within, length-map c.states (λ (w : StateWire). w.width), ap length made.named.state_widths) in
      let at : nth nexts k ≡ wire.next = ap (λ (ns : List ℕ). nth ns k) (sym made.named.next) ∙ get_or-map (λ (w : StateWire). w.next) c.states k e 0 within in
      let wide : nth (design.register_widths d) k ≡ wire.width = ap (λ (ws : List ℕ). nth ws k) (sym made.named.state_widths) ∙ get_or-map (λ (w : StateWire). w.width) c.states k e 0 within in
      let has : HasWire c.net wire.next wire.width = subst (λ (n : ℕ). HasWire c.net n wire.width) at (subst (λ (n : ℕ). HasWire c.net (nth nexts k) n) wide (made.ends.wires k inside)) in
      record {
        first = made.named.fit k e within;
        next = wire_inside c.net wire.next wire.width has;
        next_width = wire_width c.net wire.next wire.width has;
      }

  flag_stands : (k : ℕ) (e : OutputWire) → k < length c.outputs → HasWire c.net (slice_index_or c.outputs k e).id 1
  flag_stands k e within =
      let inside : k < length d.rules = omega (arith, within, length-map c.outputs (λ (w : OutputWire). w.id), ap length made.named.ids, made.ends.flags.count) in
      let at : nth fired k ≡ (slice_index_or c.outputs k e).id = ap (λ (ns : List ℕ). nth ns k) (sym made.named.ids) ∙ get_or-map (λ (w : OutputWire). w.id) c.outputs k e 0 within in
      subst (λ (n : ℕ). HasWire c.net n 1) at (made.ends.flags.each k inside)

  is_circuit : IsCircuit c
  is_circuit = record {
    net = made.net;
    reads = subst (λ (ws : List ℕ). AllRead (input_widths c.inputs) ws c.net) (sym made.named.state_widths) (subst (λ (ws : List ℕ). AllRead ws (design.register_widths d) c.net) (sym made.named.input_widths) made.reads);
    states = state_stands;
    inputs = made.named.are_inputs;
    outputs = λ k e within. wire_inside c.net (slice_index_or c.outputs k e).id 1 (flag_stands k e within);
  }

  has_parts : HasParts d c
  has_parts = record {
    inputs = made.named.inputs;
    input_widths = made.named.input_widths;
    states = made.named.states;
    state_widths = made.named.state_widths;
    outputs = made.named.outputs;
    bits = λ k e within. wire_width c.net (slice_index_or c.outputs k e).id 1 (flag_stands k e within);
  }

  pub are_wires : IsValid d → AreWiresOf d c
  are_wires valid = record {
    circuit = is_circuit;
    parts = has_parts;
    run = runs_as d valid c is_circuit has_parts nexts fired made.named.next made.named.ids made.named.first made.ends.as_many made.ends.flags.count made.ends.leaves;
  }

-- the circuit of wires is these
pub same_wires : (o : Option Wires) (wires made : Wires) → IfSome o (λ c. c ≡ wires) → o ≡ Some made → made ≡ wires
same_wires o wires made h is = subst (λ (p : Option Wires). IfSome p (λ c. c ≡ wires)) is h
