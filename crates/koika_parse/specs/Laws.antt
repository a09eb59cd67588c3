-- The laws of the grammar: tokens are derived by one tree at most, or they have one fault at most, and not both; and
-- one of both they have.
use Rattle.std.specs.Prelude.{◌≡◌, ◌⊎◌, ℕ, ◌<◌, ◌^◌, Result, List, map, length}
use Rattle.kw_base.specs.Fault.{IsOkUnlessNoMemory}
use Rattle.kw_base.specs.declared.fault.Refusal.{Refusal}
use Rattle.kw_base.specs.declared.fault.Fault.{Fault}
use Rattle.koika_syntax.specs.Grammar.{Derives, IsDesign, tree_leaves}
use Rattle.koika_syntax.specs.Tokens.{AreTokensOf}
use Rattle.koika_syntax.specs.Tree.{Terminal, terminal_of}
use Rattle.koika_syntax.specs.declared.token.Token.{Token}
use Rattle.koika_syntax.specs.declared.tree.Tree.{Tree}
use Rattle.koika_parse.specs.Brackets.{AreFewOpen}
use Rattle.koika_parse.specs.Faults.{StandsBetween}
use Rattle.koika_parse.specs.Places.{SameUpToPlaces}

-- what the grammar sees of the tokens of a tree, and of those of a text
abbrev pub terminals : Tree → List Terminal
terminals tree = map (λ leaf. leaf.terminal) (tree_leaves tree)

abbrev pub terminals_in : List ℕ → List Token → List Terminal
terminals_in text tokens = map (terminal_of text) tokens

-- two trees that derive the same tokens of a text are equal
abbrev pub OneTree : Type 0
OneTree = (text : List ℕ) (tokens : List Token) (t u : Tree) → Derives text t tokens → Derives text u tokens → t ≡ u

-- two trees of the grammar that have the same tokens are the same up to places
abbrev pub OneTreeUpToPlaces : Type 0
OneTreeUpToPlaces = (t u : Tree) → IsDesign t → IsDesign u → terminals t ≡ terminals u → SameUpToPlaces t u

-- where the tokens of a text are those of a tree, as in a printed text, each tree that derives them is that tree up
-- to places
abbrev pub ReadAgain : Type 0
ReadAgain = (text : List ℕ) (tokens : List Token) (t u : Tree) → IsDesign t → terminals_in text tokens ≡ terminals t → Derives text u tokens → SameUpToPlaces t u

-- two faults that are between the tokens of one text are the same
abbrev pub OneFault : Type 0
OneFault = (text : List ℕ) (tokens : List Token) (f g : Fault) → StandsBetween text tokens f → StandsBetween text tokens g → f ≡ g

-- where a tree derives the tokens with few open brackets, no fault is between them
abbrev pub NoFault : Type 0
NoFault = (text : List ℕ) (tokens : List Token) (tree : Tree) (fault : Fault) → Derives text tree tokens → AreFewOpen 0 (tree_leaves tree) → StandsBetween text tokens fault → ⊥

-- the tokens of a text are a tree's with few open brackets, or a fault is between them
abbrev pub IsParsed : List ℕ → List Token → Type 0
IsParsed text tokens = ((tree : Tree) × Derives text tree tokens × AreFewOpen 0 (tree_leaves tree)) ⊎ ((fault : Fault) × StandsBetween text tokens fault)

-- the tokens of each text are, where a vector has room for as many items as the text has bytes
abbrev pub EachTextIsParsed : Type 0
EachTextIsParsed = (text : List ℕ) (tokens : List Token) → AreTokensOf tokens text → length text < 2 ^ 62 → IsParsed text tokens

-- where the tokens of a text are those of a tree with few open brackets, as in a printed text, that tree is answered
-- up to places, unless memory ran out
abbrev pub ReadsBack : List ℕ → List Token → Result Tree Refusal → Type 0
ReadsBack text tokens result = (tree : Tree) → IsDesign tree → terminals_in text tokens ≡ terminals tree → AreFewOpen 0 (tree_leaves tree) → IsOkUnlessNoMemory result (λ found. SameUpToPlaces tree found)
