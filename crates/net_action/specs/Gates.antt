-- What the makers of wires do to a net, and what the wires are that they make.
use Rattle.std.specs.Prelude.{◌≡◌, ℕ, Bool, List, ◌++◌}
use Rattle.kw_bits.specs.BitVector.{BitVector}
use Rattle.net_graph.specs.Values.{AllRead, Sources, value_at}
use Rattle.net_graph.specs.declared.node.NetOp.{NetOp}
use Rattle.net_action.specs.Wires.{AreValues, is_up}

-- nodes were added after those of a net, which read only inputs of these widths and no states
pub record Grows (inputs : List ℕ) (old new : List NetOp) : Type 0 where
  pub more : (nodes : List NetOp) × (new ≡ old ++ nodes)
  pub reads : (states : List ℕ) → AllRead inputs states old → AllRead inputs states new

-- whatever the values of the net, the wire has this one by them
abbrev pub HasValue : List NetOp → (List BitVector → BitVector) → ℕ → Type 0
HasValue net value wire = (s : Sources) (values : List BitVector) → AreValues s net values → value_at values wire ≡ value values

-- whatever the values of the net, the wire is up where this holds of them
abbrev pub IsUp : List NetOp → (List BitVector → Bool) → ℕ → Type 0
IsUp net is wire = (s : Sources) (values : List BitVector) → AreValues s net values → is_up values wire ≡ is values
