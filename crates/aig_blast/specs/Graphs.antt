-- Graphs of and-gates after AIGER (Biere, Heljanko and Wieringa, 2011): variable 0 is false, then come the sources, then the
-- gates, each over literals of earlier variables. Literal 2v is variable v, 2v + 1 is its negation, so 0 is false and 1 is true.
use Rattle.std.specs.Prelude.{◌≡◌, ◌≢◌, ℕ, ◌+◌, ◌-◌, ◌*◌, ◌/◌, ◌%◌, ◌^◌, ◌<◌, ◌≤◌, Bool, false, ◌&&◌, nat_eq, if◌then◌else◌, List, [], ◌∷◌, ◌++◌, length, take, replicate, Some, slice_get, slice_index_or, AllPairs}
pub use Rattle.aig_blast.specs.BitLists.{xor, choice, carry}
use Rattle.aig_blast.specs.declared.gate.Gate.{Gate}

-- the value of a literal over the values of the variables from 0 up
abbrev pub lit_value : List Bool → ℕ → Bool
lit_value values lit = xor (nat_eq (lit % 2) 1) (slice_index_or values (lit / 2) false)

-- the value of a gate over the values of the variables before it
abbrev pub gate_value : List Bool → Gate → Bool
gate_value values gate = lit_value values gate.left && lit_value values gate.right

-- the values of the variables with those of gates, one after another
abbrev pub values_after : List Bool → List Gate → List Bool
values_after before [] = before
values_after before (gate ∷ gates) = values_after (before ++ gate_value before gate ∷ []) gates

-- the values of all variables over those of the sources
abbrev pub values_over : List Bool → List Gate → List Bool
values_over sources gates = values_after (false ∷ sources) gates

-- a graph: how many sources it has, and its gates
pub record Gates : Type 0 where
  pub sources : ℕ
  pub gates : List Gate

-- how many variables a graph has besides variable 0
abbrev pub variables : Gates → ℕ
variables g = g.sources + length g.gates

-- exactly that many values of sources: what is missing is false
abbrev pub fitted : ℕ → List Bool → List Bool
fitted count inputs = take count (inputs ++ replicate count false)

-- the values of a graph's variables
abbrev pub variables_of : List Bool → Gates → List Bool
variables_of inputs g = values_over (fitted g.sources inputs) g.gates

-- the value of a literal of a graph
unfoldable pub value : List Bool → Gates → ℕ → Bool
value inputs g lit = lit_value (variables_of inputs g) lit

-- the literal of the other value
unfoldable pub negation : ℕ → ℕ
negation lit = if nat_eq (lit % 2) 1 then lit - 1 else lit + 1

-- a literal is one of the first variables, as many as count, or of variable 0
abbrev pub Below : ℕ → ℕ → Type 0
Below count lit = lit < 2 * count + 2

-- a gate may stand after this many variables
pub record Stands (count : ℕ) (gate : Gate) : Type 0 where
  pub left : Below count gate.left
  pub right : Below count gate.right

-- each gate stands after the variables before it
abbrev pub AllStand : ℕ → List Gate → Type 0
AllStand sources gates = (k : ℕ) (gate : Gate) → slice_get gates k ≡ Some gate → Stands (sources + k) gate

-- a graph that is built: no two of its gates are equal, and there are not more than 2 to the 60 variables
pub record IsGraph (g : Gates) : Type 0 where
  pub stand : AllStand g.sources g.gates
  pub distinct : AllPairs (λ a b. a ≢ b) g.gates
  pub few : variables g ≤ 2 ^ 60

-- a literal stands in a graph
abbrev pub IsLit : Gates → ℕ → Type 0
IsLit g lit = Below (variables g) lit

-- a graph has grown, and its literals keep their values
pub record Keeps (old new : Gates) : Type 0 where
  pub same_sources : new.sources ≡ old.sources
  pub longer : variables old ≤ variables new
  pub values : (inputs : List Bool) (lit : ℕ) → IsLit old lit → value inputs new lit ≡ value inputs old lit

-- a literal was made whose value is a function of the inputs
pub record Makes (old new : Gates) (lit : ℕ) (f : List Bool → Bool) : Type 0 where
  pub keeps : Keeps old new
  pub is_lit : IsLit new lit
  pub has_value : (inputs : List Bool) → value inputs new lit ≡ f inputs
