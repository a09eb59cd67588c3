-- The run of a circuit, after BTOR2 (Niemetz et al., CAV 2018): the states step by step, and the outputs of one bit as
-- flags. A row has the states after a step and the flags in it.
use Rattle.std.specs.Prelude.{ℕ, zero, suc, ◌+◌, List, [], ◌∷◌, Bool, map, filter, nat_eq}
use Rattle.kw_bits.specs.BitVector.{BitVector}
use Rattle.net_graph.specs.Nets.{width_at, widths_of}
use Rattle.net_graph.specs.Values.{value_at, values_of}
use Rattle.one_rule.specs.Run.{InputsByCycle}
use Rattle.one_rule.specs.declared.rows.Row.{Row}
use Rattle.circuit_eval.specs.declared.circuit.OutputWire.{OutputWire}
use Rattle.circuit_eval.specs.declared.circuit.StateWire.{StateWire}
use Rattle.circuit_eval.specs.declared.circuit.Wires.{Wires}

-- the values of the nodes in a step that begins with these states
abbrev pub values_in : Wires → List BitVector → List BitVector → List BitVector
values_in c inputs states = values_of (record { inputs = inputs; states = states }) c.net

-- the states after a step, and the outputs in it, by the values of the nodes
abbrev pub next_states : List StateWire → List BitVector → List BitVector
next_states states values = map (λ (wire : StateWire). value_at values wire.next) states

abbrev pub outputs_in : List OutputWire → List BitVector → List BitVector
outputs_in outputs values = map (λ (wire : OutputWire). value_at values wire.id) outputs

-- whether each value of one bit is 1; wider ones are no flags
abbrev pub is_one_bit : BitVector → Bool
is_one_bit value = nat_eq value.width 1

abbrev pub is_one : BitVector → Bool
is_one value = nat_eq value.number 1

abbrev pub flags : List BitVector → List Bool
flags values = map is_one (filter is_one_bit values)

-- the nodes of the outputs of one bit, by the widths of the nodes
abbrev pub flag_nodes : List ℕ → List OutputWire → List ℕ
flag_nodes nodes outputs = map (λ (wire : OutputWire). wire.id) (filter (λ (wire : OutputWire). nat_eq (width_at nodes wire.id) 1) outputs)

-- the row after a step
abbrev pub row_after : Wires → List BitVector → List BitVector → Row
row_after c inputs states =
    record { regs = next_states c.states (values_in c inputs states); fired = flags (outputs_in c.outputs (values_in c inputs states)) }

-- the rows of this many cycles after the last one, from the states that it left
unfoldable pub rows_after : Wires → InputsByCycle → ℕ → ℕ → List BitVector → List Row
rows_after c inputs zero last states = []
rows_after c inputs (suc count) last states =
    let row : Row = row_after c (inputs (last + 1)) states in
    row ∷ rows_after c inputs count (last + 1) row.regs

-- the first value of each state
abbrev pub first_states : List StateWire → List BitVector
first_states states = map (λ (wire : StateWire). wire.first) states

-- 0 at each output's width, by the widths of the nodes
abbrev pub zero_outputs : List ℕ → List OutputWire → List BitVector
zero_outputs nodes outputs = map (λ (wire : OutputWire). record { width = width_at nodes wire.id; number = 0 }) outputs

-- the row before all steps: the first states, and the flags of outputs that are 0
abbrev pub first_row : Wires → Row
first_row c = record { regs = first_states c.states; fired = flags (zero_outputs (widths_of c.net) c.outputs) }

-- the run of a circuit for n cycles
abbrev pub run_of : Wires → InputsByCycle → ℕ → List Row
run_of c inputs n = first_row c ∷ rows_after c inputs n 0 (first_states c.states)
