-- The clauses that are there, as they are kept: ascending numbers, a place for each, and the literals of all in one list. Only
-- contracts of private functions cite it.
use Rattle.std.specs.Prelude.{◌≡◌, ℕ, ◌<◌, ◌≤◌, ◌==◌, if◌then◌else◌, List, [], ◌∷◌, All, length, slice_index, slice_range, Option, None, Some}
use Rattle.clause_check.specs.Clauses.{Clause}
use Rattle.clause_check.specs.Propagation.{Numbered}
use Rattle.clause_check.specs.declared.database.Place.{Place}
use Rattle.clause_check.specs.declared.literal.Literal.{Literal}

-- the place of a number
abbrev pub place_in : List ℕ → List Place → ℕ → Option Place
place_in [] places number = None
place_in (n ∷ numbers) [] number = None
place_in (n ∷ numbers) (place ∷ places) number = if number == n then Some place else place_in numbers places number

-- the clause at a place, if it is still there
abbrev pub clause_by : List Literal → Option Place → Option Clause
clause_by literals None = None
clause_by literals (Some place) = if place.is_there then Some (slice_range literals place.start place.end) else None

abbrev pub clause_in : List ℕ → List Place → List Literal → Numbered
clause_in numbers places literals number = clause_by literals (place_in numbers places number)

-- numbers ascend
abbrev pub Ascends : List ℕ → Type 0
Ascends numbers = (i j : ℕ) → i < j → j < length numbers → slice_index numbers i < slice_index numbers j

-- a place is in the list of literals
pub record IsPlace (literals : ℕ) (place : Place) : Type 0 where
  pub ordered : place.start ≤ place.end
  pub within : place.end ≤ literals

pub record IsKept (variables : ℕ) (numbers : List ℕ) (places : List Place) (literals : List Literal) (last : ℕ) : Type 0 where
  pub lengths : length numbers ≡ length places
  pub ascends : Ascends numbers
  pub positive : (i : ℕ) → i < length numbers → 0 < slice_index numbers i
  pub below : (i : ℕ) → i < length numbers → slice_index numbers i ≤ last
  pub each_place : All (IsPlace (length literals)) places
  pub each_literal : All (λ (literal : Literal). literal.variable ≤ variables) literals

-- the clause of a number is as before in the first, those of other numbers are as in the second
abbrev pub Keeps : ℕ → Numbered → Numbered → Numbered → Type 0
Keeps number all old new = (n : ℕ) → new n ≡ (if n == number then all n else old n)
