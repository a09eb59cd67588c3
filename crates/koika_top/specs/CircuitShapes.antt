-- What reports show of a circuit: its inputs, its states, and its outputs of one bit in place of rules.
use Rattle.std.specs.Prelude.{ℕ, ◌==◌, Bool, List, map, filter}
use Rattle.circuit_eval.specs.declared.circuit.InputWire.{InputWire}
use Rattle.circuit_eval.specs.declared.circuit.OutputWire.{OutputWire}
use Rattle.circuit_eval.specs.declared.circuit.StateWire.{StateWire}
use Rattle.circuit_eval.specs.declared.circuit.Wires.{Wires}
use Rattle.net_graph.specs.Nets.{width_at, widths_of}
use Rattle.stim_report.specs.declared.shape.NameWidth.{NameWidth}
use Rattle.stim_report.specs.declared.shape.Shape.{Shape}

abbrev pub of_input : InputWire → NameWidth
of_input wire = record { name = wire.name; width = wire.width }

abbrev pub of_state : StateWire → NameWidth
of_state wire = record { name = wire.name; width = wire.width }

-- an output of one bit, by the widths of the nodes
abbrev pub is_flag : List ℕ → OutputWire → Bool
is_flag widths wire = width_at widths wire.id == 1

abbrev pub name_of : OutputWire → List ℕ
name_of wire = wire.name

abbrev pub shape_of : Wires → Shape
shape_of c = record { inputs = map of_input c.inputs; registers = map of_state c.states; rules = map name_of (filter (is_flag (widths_of c.net)) c.outputs) }
