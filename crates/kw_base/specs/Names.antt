-- Names are numbered from 0 in order of first sight: the number of a name is its index in the list of the
-- names seen so far, each of which is there once.
use Rattle.std.specs.Prelude.{◌≡◌, ◌≢◌, ℕ, ◌≤◌, ◌^◌, List, [], ◌∷◌, ◌++◌, length, AllPairs, position, Option, None, Some}
use Rattle.std.specs.Str.{bytes_eq}
use Rattle.kw_base.specs.declared.names.Added.{Added}
use Rattle.kw_base.specs.declared.names.Added.TheVariants.{New, There}

-- no two names are equal, and there are no more than a number of 32 bits can tell apart
pub record AreNumbered (names : List (List ℕ)) : Type 0 where
  pub distinct : AllPairs (λ a b. a ≢ b) names
  pub few : length names ≤ 2 ^ 32

-- the number of a name, if it was seen
abbrev pub number_of : List (List ℕ) → List ℕ → Option ℕ
number_of names name = position (bytes_eq name) names

-- a name that was not seen gets the next number and goes last; one that was seen has its number, and nothing changes
abbrev pub Adds : List (List ℕ) → List ℕ → Added → List (List ℕ) → Type 0
Adds old name (New number) new = (number_of old name ≡ None) × (number ≡ length old) × (new ≡ old ++ name ∷ [])
Adds old name (There number) new = (number_of old name ≡ Some number) × (new ≡ old)
