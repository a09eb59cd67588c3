-- The nodes of a net as words of literals. Contracts of private functions alone cite it.
use Rattle.std.specs.Prelude.{◌≡◌, ℕ, ◌+◌, ◌≤◌, nat_eq, Bool, List, [], ◌++◌, length, map, filter, sum, slice_index_or, All}
use Rattle.kw_bits.specs.BitVector.{BitVector}
use Rattle.net_graph.specs.Nets.{widths_of}
use Rattle.net_graph.specs.Values.{Sources, value_at}
use Rattle.circuit_eval.specs.Circuits as circuit
use Rattle.circuit_eval.specs.Circuits.{AreBits}
use Rattle.circuit_eval.specs.Run.{values_in}
use Rattle.circuit_eval.specs.declared.circuit.InputWire.{InputWire}
use Rattle.circuit_eval.specs.declared.circuit.OutputWire.{OutputWire}
use Rattle.circuit_eval.specs.declared.circuit.StateWire.{StateWire}
use Rattle.circuit_eval.specs.declared.circuit.Wires.{Wires}
use Rattle.aig_blast.specs.AigRun.{bits_of}
use Rattle.aig_blast.specs.Graphs.{Gates, IsGraph, Keeps}
use Rattle.aig_blast.specs.inner.Sources.{source_words}
use Rattle.aig_blast.specs.Words.{AreLits, bits}
use Rattle.aig_blast.specs.declared.aig.InputWord.{InputWord}
use Rattle.aig_blast.specs.declared.aig.LatchWord.{LatchWord}
use Rattle.aig_blast.specs.declared.aig.OutputBit.{OutputBit}

-- the values of words
abbrev pub words_bits : List Bool → Gates → List (List ℕ) → List BitVector
words_bits i g words = map (bits i g) words

-- how wide words are
abbrev pub lengths : List (List ℕ) → List ℕ
lengths words = map (λ (word : List ℕ). length word) words

-- a word has 1 to 128 literals, which stand in a graph
pub record IsWord (g : Gates) (word : List ℕ) : Type 0 where
  pub some : 1 ≤ length word
  pub most : length word ≤ 128
  pub are_lits : AreLits g word

abbrev pub AreWords : Gates → List (List ℕ) → Type 0
AreWords g words = All (IsWord g) words

-- the word of a node
abbrev pub word_at : List (List ℕ) → ℕ → List ℕ
word_at words id = slice_index_or words id []

-- what nodes read from outside, by the words of inputs and states
abbrev pub sources_of : List Bool → Gates → (inputs states : List (List ℕ)) → Sources
sources_of i g inputs states = record { inputs = words_bits i g inputs; states = words_bits i g states }

-- words were made that have the values of nodes, whatever the values of sources are
pub record MakesNodes (old new : Gates) (inputs states words : List (List ℕ)) (values : Sources → List BitVector) : Type 0 where
  pub keeps : Keeps old new
  pub are_words : AreWords new words
  pub have_values : (i : List Bool) → words_bits i new words ≡ values (sources_of i old inputs states)

-- the words of a circuit's inputs and of its states as sources, inputs first, and how many sources there are
abbrev pub input_words_of : Wires → List (List ℕ)
input_words_of c = source_words 0 (circuit.input_widths c.inputs)

abbrev pub state_words_of : Wires → List (List ℕ)
state_words_of c = source_words (sum (circuit.input_widths c.inputs)) (circuit.state_widths c.states)

abbrev pub source_count : Wires → ℕ
source_count c = sum (circuit.input_widths c.inputs) + sum (circuit.state_widths c.states)

-- a graph over the bits of a circuit's inputs and states, and words in it, as wide as the circuit's nodes. Those of next nodes and
-- of outputs have the nodes' values
pub record Made (c : Wires) (g : Gates) (words : List (List ℕ)) : Type 0 where
  pub count : g.sources ≡ source_count c
  pub graph : IsGraph g
  pub are_words : AreWords g words
  pub widths : lengths words ≡ widths_of c.net
  pub nexts : (inputs states : List BitVector) → AreBits inputs (circuit.input_widths c.inputs) → AreBits states (circuit.state_widths c.states)
      → All (λ (wire : StateWire). bits (bits_of inputs ++ bits_of states) g (word_at words wire.next) ≡ value_at (values_in c inputs states) wire.next) c.states
  pub outputs : (inputs states : List BitVector) → AreBits inputs (circuit.input_widths c.inputs) → AreBits states (circuit.state_widths c.states)
      → All (λ (wire : OutputWire). bits (bits_of inputs ++ bits_of states) g (word_at words wire.id) ≡ value_at (values_in c inputs states) wire.id) c.outputs

-- the parts of a bit-level circuit by the wires of a circuit and the words of its nodes
abbrev pub input_word : InputWire → InputWord
input_word wire = record { name = wire.name; width = wire.width }

abbrev pub latch_word : List (List ℕ) → StateWire → LatchWord
latch_word words wire = record { name = wire.name; first = wire.first; nexts = word_at words wire.next }

abbrev pub output_bit : List (List ℕ) → OutputWire → OutputBit
output_bit words wire = record { name = wire.name; lit = slice_index_or (word_at words wire.id) 0 0 }

abbrev pub has_one_bit : List (List ℕ) → OutputWire → Bool
has_one_bit words wire = nat_eq (length (word_at words wire.id)) 1

abbrev pub output_bits : List (List ℕ) → List OutputWire → List OutputBit
output_bits words wires = map (output_bit words) (filter (has_one_bit words) wires)
