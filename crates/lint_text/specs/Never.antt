-- Which outputs of a circuit are 0 throughout each of its runs. The run of a circuit is after BTOR2 (Niemetz et al.,
-- CAV 2018).
use Rattle.std.specs.Prelude.{◌≡◌, ℕ, Bool, true, false, List, All, Some, slice_get, slice_index_or}
use Rattle.net_graph.specs.Nets.{width_at, widths_of}
use Rattle.one_rule.specs.Stimulus.{AlwaysFits, InputVectors, inputs_of}
use Rattle.one_rule.specs.declared.rows.Row.{Row}
use Rattle.circuit_eval.specs.Circuits.{input_widths}
use Rattle.circuit_eval.specs.Run.{run_of}
use Rattle.circuit_eval.specs.declared.circuit.OutputWire.{OutputWire}
use Rattle.circuit_eval.specs.declared.circuit.Wires.{Wires}

-- each output has one bit
abbrev pub HasFlags : Wires → Type 0
HasFlags c = All (λ (wire : OutputWire). width_at (widths_of c.net) wire.id ≡ 1) c.outputs

-- on every stimulus for the circuit's inputs, the output of this number is 0 in each row of every run
abbrev pub IsNeverOne : Wires → (output : ℕ) → Type 0
IsNeverOne c output = (stimulus : InputVectors) (n step : ℕ) (row : Row) → stimulus.widths ≡ input_widths c.inputs
    → AlwaysFits stimulus → slice_get (run_of c (inputs_of stimulus) n) step ≡ Some row
    → slice_index_or row.fired output false ≡ false

-- so it is with each output that is marked
abbrev pub AreNeverOne : Wires → (marks : List Bool) → Type 0
AreNeverOne c marks = (output : ℕ) → slice_index_or marks output false ≡ true → IsNeverOne c output
