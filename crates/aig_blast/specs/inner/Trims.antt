-- A copy of a graph that has some of its variables. Contracts of private functions alone cite it.
use Rattle.std.specs.Prelude.{◌≡◌, ℕ, ◌*◌, ◌/◌, ◌%◌, nat_eq, Bool, true, is_some, List, Option, Some, None, slice_index_or, if◌then◌else◌}
use Rattle.aig_blast.specs.Graphs.{Gates, IsLit, negation, value}

-- the literal of a variable in a copy, if the copy has it
abbrev pub place_at : List (Option ℕ) → ℕ → Option ℕ
place_at places v = slice_index_or places v None

-- a literal in a copy, or 0
abbrev pub signed_place : Option ℕ → ℕ → ℕ
signed_place (Some place) lit = if nat_eq (lit % 2) 1 then negation place else place
signed_place None lit = 0

abbrev pub moved : List (Option ℕ) → ℕ → ℕ
moved places lit = signed_place (place_at places (lit / 2)) lit

-- a copy has a literal
abbrev pub IsPlaced : List (Option ℕ) → ℕ → Type 0
IsPlaced places lit = is_some (place_at places (lit / 2)) ≡ true

-- the variables of g that h has stand at these places with their values
pub record ArePlaces (g h : Gates) (places : List (Option ℕ)) : Type 0 where
  pub same_sources : h.sources ≡ g.sources
  pub stand : (v place : ℕ) → place_at places v ≡ Some place → IsLit h place
  pub values : (v place : ℕ) → place_at places v ≡ Some place → (i : List Bool) → value i h place ≡ value i g (2 * v)
