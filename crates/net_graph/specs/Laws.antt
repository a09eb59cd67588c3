-- What holds of the values of every net's nodes.
use Rattle.std.specs.Prelude.{◌≡◌, ℕ, ◌<◌, List, ◌++◌, length, All, Some, slice_get}
use Rattle.kw_bits.specs.BitVector.{IsBits}
use Rattle.net_graph.specs.Nets.{IsNet, widths_of}
use Rattle.net_graph.specs.Values.{Sources, AllRead, node_value, op_value, values_of, widths}
use Rattle.net_graph.specs.declared.node.NetOp.{NetOp}

-- what is read from outside are bit vectors, of the widths that the net reads them at
pub record Feeds (s : Sources) (ops : List NetOp) : Type 0 where
  pub inputs : All IsBits s.inputs
  pub states : All IsBits s.states
  pub reads : AllRead (widths s.inputs) (widths s.states) ops

-- each node's value is a bit vector of the node's width
abbrev pub HaveWidths : Type 0
HaveWidths = (s : Sources) (ops : List NetOp) → IsNet ops → Feeds s ops → (widths (values_of s ops) ≡ widths_of ops) × All IsBits (values_of s ops)

-- nodes that are added leave the values of those before them
abbrev pub KeepValues : Type 0
KeepValues = (s : Sources) (old more : List NetOp) (id : ℕ) → id < length old → node_value s (old ++ more) id ≡ node_value s old id

-- a node has the value of its operator over the values of all nodes
abbrev pub FollowOperators : Type 0
FollowOperators = (s : Sources) (ops : List NetOp) (id : ℕ) (op : NetOp) → IsNet ops → slice_get ops id ≡ Some op → node_value s ops id ≡ op_value s (values_of s ops) op
