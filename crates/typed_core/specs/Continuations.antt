-- Where the walk over the scheduler's nodes is: where it begins, and whether it is at a node.
use Rattle.std.specs.Prelude.{ℕ, Bool, false, ◌==◌, List, [], ◌∷◌}
use Rattle.typed_core.specs.declared.design.Node.{Node}
use Rattle.typed_core.specs.declared.design.Next.{Next}
use Rattle.typed_core.specs.declared.design.Next.TheVariants as next

-- the walk begins at node 0, or at the end where there is no node
abbrev pub root : List Node → Next
root [] = next.End
root (node ∷ nodes) = next.Node 0

-- the walk is at the node of this number
abbrev pub is_at : ℕ → Next → Bool
is_at number (next.Node to) = number == to
is_at number next.End = false
