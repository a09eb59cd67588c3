-- What private functions alone cite of this crate's `Programs`.
use Rattle.std.specs.Prelude.{◌≡◌, ◌⊎◌, ℕ, ◌<◌, ◌≤◌, All, if◌then◌else◌, List, [], nat_le}
use Rattle.kw_bits.specs.BitVector.{BitVector}
use Rattle.kw_bits.specs.Laws.{HasWidth}
use Rattle.net_graph.specs.Values.{value_at}
use Rattle.net_graph.specs.declared.node.NetOp.{NetOp}
use Rattle.circuit_eval.specs.declared.program.Step.{Step}
use Rattle.circuit_eval.specs.declared.program.Step.TheVariants.{Wide, Other}
use Rattle.circuit_eval.specs.Run.{first_states}
use Rattle.circuit_eval.specs.declared.circuit.StateWire.{StateWire}
use Rattle.circuit_eval.specs.Programs.{node_width, IsNarrow, word_at}

-- a step makes no word: its node's value is made by the operator
abbrev pub MakesNoWord : Step → Type 0
MakesNoWord (Wide operator a b) = Unit {0}
MakesNoWord Other = Unit {0}
MakesNoWord step = ⊥

-- what is kept of a node is its value
pub record KeepsAt (net : List NetOp) (words : List ℕ) (wides values : List BitVector) (id : ℕ) : Type 0 where
  pub fits : HasWidth (value_at values id) (node_width net id)
  pub narrow : IsNarrow net id → word_at words id ≡ (value_at values id).number
  pub wide : 64 < node_width net id → value_at wides id ≡ value_at values id

-- and of each of that many first nodes
abbrev pub Keeps : List NetOp → List ℕ → List BitVector → List BitVector → ℕ → Type 0
Keeps net words wides values count = (id : ℕ) → id < count → KeepsAt net words wides values id

-- the number of a bit vector of up to 64 bits, 0 of a wider one
abbrev pub narrow_number : BitVector → ℕ
narrow_number value = if nat_le value.width 64 then value.number else 0

-- the first values of states, or none where no state has more than 64 bits
abbrev pub AreWides : List StateWire → List BitVector → Type 0
AreWides wires values =
    (values ≡ first_states wires) ⊎ (All (λ (wire : StateWire). wire.width ≤ 64) wires × (values ≡ []))
