-- The values of a net's nodes at one step, after BTOR2 (Niemetz et al., CAV 2018): each by its operator from the values
-- before it. So a node's value rests on the nodes up to it alone.
use Rattle.std.specs.Prelude.{◌≡◌, ℕ, List, [], map, Some, slice_get, slice_index_or, All}
use Rattle.kw_bits.specs.BitVector.{BitVector}
use Rattle.kw_bits.specs.Operators as op
use Rattle.net_graph.specs.Operators.{one_value, two_value, uext_value, sext_value, ite_value}
use Rattle.net_graph.specs.Nets.{one_by_one}
use Rattle.net_graph.specs.declared.node.NetOp.{NetOp}
use Rattle.net_graph.specs.declared.node.NetOp.TheVariants.{Const, Input, State, One, Two, Slice, Uext, Sext, Ite}

-- what nodes read from outside at a step
pub record Sources : Type 0 where
  pub inputs : List BitVector
  pub states : List BitVector

-- what is used where there is no node: no bits at all
abbrev pub no_bits : BitVector
no_bits = record { width = 0; number = 0 }

-- the value of the node, the input or the state of this number
abbrev pub value_at : List BitVector → ℕ → BitVector
value_at values id = slice_index_or values id no_bits

-- the value of an operator over nodes of these values
abbrev pub op_value : Sources → List BitVector → NetOp → BitVector
op_value s values (Const value) = value
op_value s values (Input number width) = value_at s.inputs number
op_value s values (State number width) = value_at s.states number
op_value s values (One operator a) = one_value operator (value_at values a)
op_value s values (Two operator a b) = two_value operator (value_at values a) (value_at values b)
op_value s values (Slice a upper lower) = op.slice (value_at values a) upper lower
op_value s values (Uext a added) = uext_value (value_at values a) added
op_value s values (Sext a added) = sext_value (value_at values a) added
op_value s values (Ite condition a b) = ite_value (value_at values condition) (value_at values a) (value_at values b)

-- the values of a net's nodes
abbrev pub values_of : Sources → List NetOp → List BitVector
values_of s ops = one_by_one (op_value s) [] ops

-- the value of a node
abbrev pub node_value : Sources → List NetOp → ℕ → BitVector
node_value s ops id = value_at (values_of s ops) id

-- the widths of values
abbrev pub widths : List BitVector → List ℕ
widths values = map (λ (value : BitVector). value.width) values

-- an operator reads only inputs and states that there are, at their widths
abbrev pub Reads : List ℕ → List ℕ → NetOp → Type 0
Reads inputs states (Input number width) = slice_get inputs number ≡ Some width
Reads inputs states (State number width) = slice_get states number ≡ Some width
Reads inputs states _ = Unit {0}

-- all operators of a net do
abbrev pub AllRead : List ℕ → List ℕ → List NetOp → Type 0
AllRead inputs states ops = All (Reads inputs states) ops
