-- Where the parser's faults stand: 11 at the first token that no design goes on with, or at the end of the text where
-- no design ends there, and 12 at a 65th open bracket that some design goes on with. Some design begins with the
-- tokens before it.
use Rattle.std.specs.Prelude.{◌≡◌, ◌⊎◌, ℕ, ◌<◌, None, List, [], ◌∷◌, ◌++◌, length, map}
use Rattle.kw_base.specs.Fault.{fault_at}
use Rattle.kw_base.specs.Place.{place_at}
use Rattle.kw_base.specs.declared.fault.Fault.{Fault}
use Rattle.kw_base.specs.declared.place.Place.{Place}
use Rattle.koika_syntax.specs.Grammar.{IsDesign, tree_leaves}
use Rattle.koika_syntax.specs.Tree.{Leaf, Terminal, terminal_of}
use Rattle.koika_syntax.specs.declared.token.Token.{Token}
use Rattle.koika_syntax.specs.declared.tree.Tree.{Tree}
use Rattle.koika_parse.specs.Brackets.{AreFewOpen, open_behind, open_behind_all}

-- what the grammar sees of a design
abbrev pub design_terminals : Tree → List Terminal
design_terminals tree = map (λ leaf. leaf.terminal) (tree_leaves tree)

-- a design that begins with these tokens of the text
pub record BeginsWith (text : List ℕ) (tokens : List Token) (tree : Tree) : Type 0 where
  pub design : IsDesign tree
  pub rest : List Terminal
  pub terminals : design_terminals tree ≡ map (terminal_of text) tokens ++ rest

-- some design begins with these tokens of the text
abbrev pub Begins : List ℕ → List Token → Type 0
Begins text tokens = (tree : Tree) × BeginsWith text tokens tree

-- some design goes on with the first token after
abbrev pub GoesOn : List ℕ → (before behind : List Token) → Type 0
GoesOn text before [] = ⊥
GoesOn text before (token ∷ behind) = Begins text (before ++ token ∷ [])

-- no design has the tokens up to the first one after; where none is after, no design is these tokens
abbrev pub NoneGoesOn : List ℕ → (before behind : List Token) → Type 0
NoneGoesOn text before [] = (tree : Tree) → IsDesign tree → design_terminals tree ≡ map (terminal_of text) before → ⊥
NoneGoesOn text before (token ∷ behind) = (tree : Tree) → BeginsWith text (before ++ token ∷ []) tree → ⊥

-- the place of the first token after, or of the end of the text
abbrev pub place_behind : List ℕ → List Token → Place
place_behind text [] = place_at text (length text)
place_behind text (token ∷ behind) = place_at text token.start

-- tokens of the text as leaves, which brackets are counted in
abbrev pub seen : List ℕ → List Token → List Leaf
seen text tokens = map (λ token. record { terminal = terminal_of text token; place = None }) tokens

-- the first token after opens a bracket too many
abbrev pub OpensTooMany : List ℕ → (before behind : List Token) → Type 0
OpensTooMany text before [] = ⊥
OpensTooMany text before (token ∷ behind) = 64 < open_behind (open_behind_all 0 (seen text before)) (terminal_of text token)

-- the tokens are those before the fault and those after it; some design begins with those before it, few brackets are
-- open there, and the fault says why reading ends: no design goes on so, or some does, with a 65th open bracket
pub record StandsBetween (text : List ℕ) (tokens : List Token) (fault : Fault) : Type 0 where
  pub before : List Token
  pub behind : List Token
  pub split : tokens ≡ before ++ behind
  pub few : AreFewOpen 0 (seen text before)
  pub begun : Begins text before
  pub why : ((fault ≡ fault_at 11 (place_behind text behind)) × NoneGoesOn text before behind) ⊎ ((fault ≡ fault_at 12 (place_behind text behind)) × OpensTooMany text before behind × GoesOn text before behind)
