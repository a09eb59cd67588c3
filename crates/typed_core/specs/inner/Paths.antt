-- What private functions alone cite of this crate's `Paths`.
use Rattle.std.specs.Prelude.{◌≡◌, ℕ, ◌+◌, ◌-◌, ◌≤◌, Bool, false, ◌==◌, List, [], ◌∷◌, length, Option, Some, None, if◌then◌else◌, slice_get, slice_index}
use Rattle.typed_core.specs.Valid.{IsPath}
use Rattle.typed_core.specs.declared.design.Node.{Node}
use Rattle.typed_core.specs.declared.design.Next.{Next}
use Rattle.typed_core.specs.declared.design.Next.TheVariants as next

-- the node, if there is one, tries the rule
abbrev pub tries : ℕ → Option Node → Bool
tries rule None = false
tries rule (Some node) = node.rule == rule

-- how many of the nodes try the rule
abbrev pub times : List Node → ℕ → List ℕ → ℕ
times nodes rule [] = 0
times nodes rule (number ∷ path) = times nodes rule path + (if tries rule (slice_get nodes number) then 1 else 0)

-- the rule is tried once at most on each path from the root
abbrev pub IsTriedOnce : List Node → ℕ → Type 0
IsTriedOnce nodes rule = (path : List ℕ) → IsPath nodes 0 path → times nodes rule (0 ∷ path) ≤ 1

-- the most times that the rule is tried on a path that begins at the node; 0 where there is no such node
pub record IsMost (nodes : List Node) (rule from most : ℕ) : Type 0 where
  pub bound : (path : List ℕ) → IsPath nodes from path → times nodes rule (from ∷ path) ≤ most
  pub met : 1 ≤ most → (path : List ℕ) × IsPath nodes from path × (times nodes rule (from ∷ path) ≡ most)
  pub few : most ≤ length nodes - from

-- the numbers are right for the nodes from this one on
abbrev pub AreMost : List Node → ℕ → ℕ → List ℕ → Type 0
AreMost nodes rule first numbers = (from : ℕ) → first ≤ from → IsMost nodes rule from (slice_index numbers from)

-- of a list with a number for each node, the number where the scheduler goes on, 0 at the end
abbrev pub number_behind : List ℕ → Next → ℕ
number_behind numbers (next.Node to) = slice_index numbers to
number_behind numbers next.End = 0
