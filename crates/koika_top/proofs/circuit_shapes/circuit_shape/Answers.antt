use Rattle.std.proofs.Common.{All, List, filter, map, refl, sym, ap, ◌∙◌, rules, subst}
use Rattle.circuit_eval.specs.Circuits.{IsOutput}
use Rattle.circuit_eval.specs.declared.circuit.OutputWire.{OutputWire}
use Rattle.circuit_eval.specs.declared.circuit.Wires.{Wires}
use Rattle.net_graph.specs.Nets.{widths_of}
use Rattle.koika_top.specs.CircuitShapes.{of_input, of_state, name_of, is_flag}
use Rattle.koika_top.proofs.circuit_shapes.circuit_shape.Goals as goal

pub flags-requires : goal.flags-requires
flags-requires c = subst (λ (wires : List OutputWire). All (IsOutput c.circuit.inside.net) wires) (sym c.as_slice-3.ensures) c.circuit.invariant.outputs

pub returns : goal.returns
returns c =
    let inputs = c.in_ok-inputs.ensures of_input (λ x y k. search rules) ∙ ap (map of_input) c.as_slice.ensures ∙ ap (λ (w : Wires). map of_input w.inputs) c.circuit.view_is in
    let registers = c.in_ok-registers.ensures of_state (λ x y k. search rules) ∙ ap (map of_state) c.as_slice-2.ensures ∙ ap (λ (w : Wires). map of_state w.states) c.circuit.view_is in
    let names = c.in_ok-rules.ensures ∙ ap (λ wires. map name_of (filter (is_flag (widths_of c.circuit.inside.net)) wires)) c.as_slice-3.ensures
    ∙ ap (λ (w : Wires). map name_of (filter (is_flag (widths_of w.net)) w.outputs)) c.circuit.view_is in
    rw (inputs, registers, names) refl
