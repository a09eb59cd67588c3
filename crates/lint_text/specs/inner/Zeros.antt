-- Nodes that are the constant 0.
use Rattle.std.specs.Prelude.{ℕ, Bool, false, ◌==◌, List, Option, Some, None, slice_get}
use Rattle.net_graph.specs.declared.node.NetOp.{NetOp}
use Rattle.net_graph.specs.declared.node.NetOp.TheVariants.{Const}

abbrev pub is_zero_op : NetOp → Bool
is_zero_op (Const value) = value.number == 0
is_zero_op op = false

-- there is a node, and it is the constant 0
abbrev pub is_zero_node : Option NetOp → Bool
is_zero_node None = false
is_zero_node (Some op) = is_zero_op op

abbrev pub is_zero : List NetOp → (id : ℕ) → Bool
is_zero net id = is_zero_node (slice_get net id)
