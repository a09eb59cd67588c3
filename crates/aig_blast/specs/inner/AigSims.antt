-- What private functions alone cite of this crate's `AigSims`.
use Rattle.std.specs.Prelude.{◌≡◌, ◌<◌, ◌≤◌, List, [], ◌∷◌, length, Bool, not, All}
use Rattle.aig_blast.specs.declared.aig.LatchWord.{LatchWord}

-- the values of literals by those of variables: of a variable's literal and of its negation, for one variable after another
abbrev pub both : List Bool → List Bool
both [] = []
both (value ∷ values) = value ∷ not value ∷ both values

-- the values of variables by those of literals
abbrev pub variable_values : List Bool → List Bool
variable_values (value ∷ opposite ∷ values) = value ∷ variable_values values
variable_values _ = []

-- values of literals are those by variables
abbrev pub AreBoth : List Bool → Type 0
AreBoth values = values ≡ both (variable_values values)

-- the next literals of a word of latches can be read from values of literals
pub record IsReadable (values : List Bool) (word : LatchWord) : Type 0 where
  pub some : 1 ≤ length word.nexts
  pub most : length word.nexts ≤ 128
  pub nexts : All (λ lit. lit < length values) word.nexts
