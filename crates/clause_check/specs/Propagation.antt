-- When a clause follows by hints, after the checker of LRAT (Cruz-Filipe, Heule, Hunt, Kaufmann and Schneider-Kamp,
-- "Efficient Certified RAT Verification", CADE 2017) without its RAT steps: unit propagation in the order of the hints. A
-- partial assignment is the list of the literals that are true.
use Rattle.std.specs.Prelude.{ℕ, Bool, true, false, not, if◌then◌else◌, List, [], ◌∷◌, filter, Option, None, Some}
use Rattle.std.specs.List.{list_all, list_any}
use Rattle.std.specs.Option.{option_map_or}
use Rattle.clause_check.specs.Clauses.{Clause, is_same, negation}
use Rattle.clause_check.specs.declared.left.Left.{Left}
use Rattle.clause_check.specs.declared.left.Left.TheVariants as lefts
use Rattle.clause_check.specs.declared.literal.Literal.{Literal}

-- the clauses that are there, by their numbers
abbrev pub Numbered : Type 0
Numbered = ℕ → Option Clause

-- a literal is true, or its negation is
abbrev pub is_true : List Literal → Literal → Bool
is_true trues literal = list_any (is_same literal) trues

abbrev pub is_false : List Literal → Literal → Bool
is_false trues literal = is_true trues (negation literal)

-- what literals are: none, one, which may be there several times, or more
abbrev pub left_by : List Literal → Left
left_by [] = lefts.Nothing
left_by (literal ∷ others) = if list_all (is_same literal) others then lefts.One literal else lefts.Several

-- what is left of a clause without the literals that are false
abbrev pub left_of : List Literal → Clause → Left
left_of trues clause = left_by (filter (λ literal. not (is_false trues literal)) clause)

-- a clause whose literals are all false ends the propagation; where one literal is left, it goes on with that one true
abbrev pub propagates : Left → (Literal → Bool) → Bool
propagates lefts.Nothing goes_on = true
propagates (lefts.One literal) goes_on = goes_on literal
propagates lefts.Several goes_on = false

-- the hints lead to a clause whose literals are all false
abbrev pub refutes : Numbered → List Literal → List ℕ → Bool
refutes there trues [] = false
refutes there trues (hint ∷ hints) =
    option_map_or (λ clause. propagates (left_of trues clause) (λ literal. refutes there (literal ∷ trues) hints)) (there hint) false

-- the partial assignment that makes a clause false, if no literal of it is true already
abbrev pub denied : List Literal → Clause → Option (List Literal)
denied trues [] = Some trues
denied trues (literal ∷ clause) = if is_true trues literal then None else denied (negation literal ∷ trues) clause

-- a clause follows by hints: it is always true, or with its literals false the hints lead to a contradiction
unfoldable pub follows_by_hints : Numbered → Clause → List ℕ → Bool
follows_by_hints there clause hints = option_map_or (λ trues. refutes there trues hints) (denied [] clause) true
