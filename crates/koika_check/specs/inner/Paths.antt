-- The rules on a path, each of which tells its place there, and the nodes that are made so far. All of it serves private
-- functions alone.
use Rattle.std.specs.Prelude.{◌≡◌, ℕ, ◌<◌, Bool, true, false, List, [], ◌∷◌, length, slice_index}
use Rattle.typed_core.specs.declared.design.Next.{Next}
use Rattle.typed_core.specs.declared.design.Next.TheVariants as next
use Rattle.typed_core.specs.declared.design.Node.{Node}
use Rattle.koika_check.specs.declared.checker.Checker.{Checker}
use Rattle.koika_check.specs.declared.path.Path.{Path}
use Rattle.koika_check.specs.declared.schedule.Nodes.{Nodes}

-- each rule on the path has its place
pub record IsPath (p : Path) : Type 0 where
  pub known : (place : ℕ) → place < length p.rules → slice_index p.rules place < length p.places
  pub placed : (place : ℕ) → place < length p.rules → slice_index p.places (slice_index p.rules place) ≡ place

-- a path of a design's rules
pub record IsAt (c : Checker) (n : Nodes) : Type 0 where
  pub path : IsPath n.path
  pub rules : length n.path.places ≡ length c.design.rules

-- there are no nodes
abbrev pub is_end : List Node → Bool
is_end [] = true
is_end (node ∷ nodes) = false

-- the node of this number, or the end where it isn't there
abbrev pub next_at : Bool → ℕ → Next
next_at true number = next.Node number
next_at false number = next.End
