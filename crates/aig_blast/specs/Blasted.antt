-- When a bit-level circuit is that of a circuit of words: it has the names and widths of the circuit, and its run is the circuit's.
use Rattle.std.specs.Prelude.{◌≡◌, ℕ, nat_eq, List, map, filter, All}
use Rattle.net_graph.specs.Nets.{width_at, widths_of}
use Rattle.one_rule.specs.Stimulus.{AlwaysFits, InputVectors, inputs_of}
use Rattle.circuit_eval.specs.Circuits as circuit
use Rattle.circuit_eval.specs.Run as wired
use Rattle.circuit_eval.specs.declared.circuit.InputWire.{InputWire}
use Rattle.circuit_eval.specs.declared.circuit.OutputWire.{OutputWire}
use Rattle.circuit_eval.specs.declared.circuit.StateWire.{StateWire}
use Rattle.circuit_eval.specs.declared.circuit.Wires.{Wires}
use Rattle.aig_blast.specs.Aigs.{AigParts, IsSymbol, IsWordName, input_word_widths, latch_widths}
use Rattle.aig_blast.specs.AigRun.{run_of}
use Rattle.aig_blast.specs.declared.aig.InputWord.{InputWord}
use Rattle.aig_blast.specs.declared.aig.LatchWord.{LatchWord}
use Rattle.aig_blast.specs.declared.aig.OutputBit.{OutputBit}

-- each name of the circuit can be written as a symbol
pub record HasSymbols (c : Wires) : Type 0 where
  pub inputs : All (λ (wire : InputWire). IsWordName wire.name) c.inputs
  pub states : All (λ (wire : StateWire). IsWordName wire.name) c.states
  pub outputs : All (λ (wire : OutputWire). IsSymbol wire.name) c.outputs

-- the outputs of one bit
abbrev pub flag_wires : Wires → List OutputWire
flag_wires c = filter (λ (wire : OutputWire). nat_eq (width_at (widths_of c.net) wire.id) 1) c.outputs

-- a word for each input and state and a bit for each output of one bit, in order, of the same names and widths
pub record HasWires (c : Wires) (a : AigParts) : Type 0 where
  pub inputs : map (λ (word : InputWord). word.name) a.inputs ≡ map (λ (wire : InputWire). wire.name) c.inputs
  pub input_widths : input_word_widths a.inputs ≡ circuit.input_widths c.inputs
  pub states : map (λ (word : LatchWord). word.name) a.latches ≡ map (λ (wire : StateWire). wire.name) c.states
  pub state_widths : latch_widths a.latches ≡ circuit.state_widths c.states
  pub outputs : map (λ (output : OutputBit). output.name) a.outputs ≡ map (λ (wire : OutputWire). wire.name) (flag_wires c)

-- on every stimulus for the circuit's inputs, the rows of every number of cycles are the circuit's
abbrev pub RunsAs : Wires → AigParts → Type 0
RunsAs c a = (stimulus : InputVectors) (n : ℕ) → stimulus.widths ≡ circuit.input_widths c.inputs → AlwaysFits stimulus
    → run_of a (inputs_of stimulus) n ≡ wired.run_of c (inputs_of stimulus) n
