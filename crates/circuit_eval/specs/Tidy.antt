-- When a circuit is tidy: nothing in its net can be left out or done without at a glance. BTOR2 (Niemetz et al., CAV 2018)
-- has the operators; what is tidy is this project's own.
use Rattle.std.specs.Prelude.{◌≡◌, ◌≢◌, ℕ, ◌<◌, List, [], ◌∷◌, length, All, AllPairs, Contains, Some, slice_get}
use Rattle.kw_bits.specs.BitVector.{BitVector}
use Rattle.net_graph.specs.declared.node.NetOne.TheVariants.{Not}
use Rattle.net_graph.specs.declared.node.NetTwo.TheVariants.{And, Or}
use Rattle.net_graph.specs.declared.node.NetOp.{NetOp}
use Rattle.net_graph.specs.declared.node.NetOp.TheVariants.{Const, Input, State, One, Two, Slice, Uext, Sext, Ite}
use Rattle.circuit_eval.specs.declared.circuit.OutputWire.{OutputWire}
use Rattle.circuit_eval.specs.declared.circuit.StateWire.{StateWire}
use Rattle.circuit_eval.specs.declared.circuit.Wires.{Wires}

-- the nodes that an operator stands on; a constant, an input and a state stand on none
abbrev pub operands : NetOp → List ℕ
operands (Const value) = []
operands (Input number width) = []
operands (State number width) = []
operands (One operator a) = a ∷ []
operands (Two operator a b) = a ∷ b ∷ []
operands (Slice a upper lower) = a ∷ []
operands (Uext a added) = a ∷ []
operands (Sext a added) = a ∷ []
operands (Ite condition a b) = condition ∷ a ∷ b ∷ []

-- a node serves a next value or an output: it is one, or an operand of a node that does
pub data Serves (c : Wires) : ℕ → Type 0 where
  next : (wire : StateWire) → Contains c.states wire → Serves c wire.next
  output : (wire : OutputWire) → Contains c.outputs wire → Serves c wire.id
  operand : (a id : ℕ) (op : NetOp) → slice_get c.net id ≡ Some op → Contains (operands op) a → Serves c id → Serves c a

-- the node is a constant
abbrev pub IsConstant : List NetOp → ℕ → Type 0
IsConstant net id = (value : BitVector) × (slice_get net id ≡ Some (Const value))

-- an operator stands on something else than constants
abbrev pub IsOpen : List NetOp → NetOp → Type 0
IsOpen net op = operands op ≢ [] → ¬ All (IsConstant net) (operands op)

-- the operator is none of `ite` with equal choices, `and` and `or` with equal operands, and `not` of a `not`
abbrev pub IsNeeded : List NetOp → NetOp → Type 0
IsNeeded net (Ite condition a b) = a ≢ b
IsNeeded net (Two And a b) = a ≢ b
IsNeeded net (Two Or a b) = a ≢ b
IsNeeded net (One Not a) = (b : ℕ) → slice_get net a ≢ Some (One Not b)
IsNeeded net _ = Unit {0}

-- a circuit is tidy: no two nodes have the same operator and operands, each node serves, and the operators are as above
pub record IsTidy (c : Wires) : Type 0 where
  pub distinct : AllPairs (λ a b. a ≢ b) c.net
  pub serve : (id : ℕ) → id < length c.net → Serves c id
  pub are_open : All (IsOpen c.net) c.net
  pub needed : All (IsNeeded c.net) c.net
