-- A circuit at a moment between two steps, and its rows from there on.
use Rattle.std.specs.Prelude.{ℕ, ◌-◌, List, ◌∷◌, length}
use Rattle.kw_bits.specs.BitVector.{BitVector}
use Rattle.net_graph.specs.Nets.{widths_of}
use Rattle.circuit_eval.specs.declared.circuit.Wires.{Wires}
use Rattle.circuit_eval.specs.Machines as machines
use Rattle.circuit_eval.specs.Run.{first_states, flag_nodes, flags, next_states, outputs_in, rows_after, values_in, zero_outputs}
use Rattle.one_rule.specs.Run.{InputsByCycle}
use Rattle.one_rule.specs.declared.rows.Row.{Row}

-- the circuit, its states now and its outputs in the last step
pub record Simulation : Type 0 where
  pub circuit : Wires
  pub states : List BitVector
  pub outputs : List BitVector

-- before all steps
abbrev pub beginning : Wires → Simulation
beginning c = record { circuit = c; states = first_states c.states; outputs = zero_outputs (widths_of c.net) c.outputs }

-- after one step more
abbrev pub after_step : Simulation → List BitVector → Simulation
after_step s inputs =
    let values : List BitVector = values_in s.circuit inputs s.states in
    record { circuit = s.circuit; states = next_states s.circuit.states values; outputs = outputs_in s.circuit.outputs values }

-- after that many steps more, after the last cycle so far
unfoldable pub after_steps : InputsByCycle → (count last : ℕ) → Simulation → Simulation
after_steps inputs count last s = machines.after_steps after_step inputs count last s

-- some of that many steps were made, from the first on
abbrev pub MadeSome : InputsByCycle → (count last : ℕ) → Simulation → Simulation → Type 0
MadeSome inputs count last old new = machines.MadeSome after_step inputs count last old new

-- how many flags its rows have
abbrev pub flag_count : Simulation → ℕ
flag_count s = length (flag_nodes (widths_of s.circuit.net) s.circuit.outputs)

-- the row of a moment, and those of the cycles from one to another after it
abbrev pub row_at : Simulation → Row
row_at s = record { regs = s.states; fired = flags s.outputs }

abbrev pub rows_from : Simulation → InputsByCycle → (from to : ℕ) → List Row
rows_from s inputs from to = row_at s ∷ rows_after s.circuit inputs (to - from) from s.states
