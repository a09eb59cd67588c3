-- Values of variables against partial assignments. Only contracts of private functions cite it.
use Rattle.std.specs.Prelude.{◌≡◌, ℕ, ◌<◌, Bool, true, false, not, if◌then◌else◌, nat_eq, List, length, slice_index, slice_index_or, Option, None, Some}
use Rattle.std.specs.List.{list_any}
use Rattle.clause_check.specs.Clauses.{is_same}
use Rattle.clause_check.specs.Propagation.{is_true}
use Rattle.clause_check.specs.declared.left.Left.{Left}
use Rattle.clause_check.specs.declared.left.Left.TheVariants as lefts
use Rattle.clause_check.specs.declared.literal.Literal.{Literal}
use Rattle.clause_check.specs.declared.values.Value.{Value}
use Rattle.clause_check.specs.declared.values.Value.TheVariants as values

-- the value of a variable makes a literal of it true
abbrev pub makes : Value → Literal → Bool
makes values.Open literal = false
makes values.True literal = not literal.is_negated
makes values.False literal = literal.is_negated

abbrev pub value_in : List Value → ℕ → Value
value_in of variable = slice_index_or of variable values.Open

-- the values are those of a partial assignment
abbrev pub Agrees : List Value → List Literal → Type 0
Agrees of trues = (literal : Literal) → literal.variable < length of → makes (value_in of literal.variable) literal ≡ is_true trues literal

abbrev pub is_open : Value → Bool
is_open values.Open = true
is_open values.True = false
is_open values.False = false

-- the trail has all variables that aren't open
pub record IsTrail (of : List Value) (trail : List ℕ) : Type 0 where
  pub within : (k : ℕ) → k < length trail → slice_index trail k < length of
  pub others : (variable : ℕ) → list_any (nat_eq variable) trail ≡ false → is_open (value_in of variable) ≡ true

-- the value of its variable that makes a literal true
abbrev pub value_by : Literal → Value
value_by literal = if literal.is_negated then values.False else values.True

-- what is left with one more literal
abbrev pub left_with : Left → Literal → Left
left_with lefts.Nothing literal = lefts.One literal
left_with (lefts.One first) literal = if is_same first literal then lefts.One first else lefts.Several
left_with lefts.Several literal = lefts.Several

-- what is left of a clause is of one of the variables
abbrev pub LeftIsBelow : ℕ → Left → Type 0
LeftIsBelow count lefts.Nothing = Unit {0}
LeftIsBelow count (lefts.One literal) = literal.variable < count
LeftIsBelow count lefts.Several = Unit {0}

-- the values are of the partial assignment that was found, or none was
abbrev pub Denies : List Value → Bool → Option (List Literal) → Type 0
Denies of true (Some trues) = Agrees of trues
Denies of true None = ⊥
Denies of false (Some trues) = ⊥
Denies of false None = Unit {0}
