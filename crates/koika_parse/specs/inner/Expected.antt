-- What readers of parts leave of a word of the grammar: a reader that is at the front of a word of its language
-- takes that word and leaves what is after it, and reading ends unexpectedly nowhere where some word goes on. Where it
-- ends, some word goes on with what has been read.
-- This serves private functions alone.
use Rattle.std.specs.Prelude.{◌≡◌, ℕ, ◌<◌, ◌≤◌, Option, None, Some, IfSome, Result, Ok, Err, Bool, true, false, ⊤, List, [], ◌∷◌, ◌++◌, map, All, drop}
use Rattle.std.specs.List.{AllZip}
use Rattle.koika_syntax.specs.Grammar.{IsNonempty}
use Rattle.koika_syntax.specs.Tree.{Leaf, Terminal, symbol, commas, terminal_of}
use Rattle.koika_syntax.specs.declared.token.Token.{Token}
use Rattle.koika_syntax.specs.declared.symbol.Symbol.TheVariants as symbols
use Rattle.koika_parse.specs.Brackets.{AreFewOpen, open_behind}
use Rattle.koika_parse.specs.inner.Reading.{Reads, next}
use Rattle.koika_parse.specs.declared.cursor.Cursor.{Cursor}
use Rattle.koika_parse.specs.declared.source.Source.{Source}
use Rattle.koika_parse.specs.inner.Stops.{Stop}
use Rattle.kw_bits.specs.declared.failure.Failure.TheVariants as failures
use Rattle.koika_parse.specs.declared.stop.Unread.TheVariants as unread

-- words of a part: the leaves of each thing that it may be
abbrev pub Part : {X : Type 0} → (X → Type 0) → (X → List Leaf) → List Leaf → Type 0
Part {X} Is leaves u = (x : X) × Is x × (u ≡ leaves x)

-- one token
abbrev pub One : Terminal → List Leaf → Type 0
One terminal u = (leaf : Leaf) × (leaf.terminal ≡ terminal) × (u ≡ leaf ∷ [])

-- a word of one part, and then one of another
abbrev pub Then : (List Leaf → Type 0) → (List Leaf → Type 0) → List Leaf → Type 0
Then P Q u = (a b : List Leaf) × P a × Q b × (u ≡ a ++ b)

-- the first token
abbrev pub first : List Leaf → Option Terminal
first [] = None
first (leaf ∷ leaves) = Some leaf.terminal

-- any token may follow, or none
abbrev pub Any : Option Terminal → Type 0
Any next = ⊤

-- what follows begins so
abbrev pub Behind : (Option Terminal → Type 0) → List Leaf → Type 0
Behind Follow v = Follow (first v)

-- a word has the tokens of the text up to this one
abbrev pub AgreesUpTo : Source → Cursor → List Leaf → Type 0
AgreesUpTo source last w = (cursor : Cursor) → cursor.at ≤ last.at → first (drop cursor.at w) ≡ next source cursor

-- what a word is at two cursors, and how many brackets are open there
pub record Leaves (old new : Cursor) (w before behind : List Leaf) : Type 0 where
  pub rest : drop new.at w ≡ behind
  pub few : AreFewOpen old.depth before → AreFewOpen new.depth behind

-- how reading ends: it leaves what is after; it cannot be unexpected; brackets are too many
abbrev pub Ends : {X : Type 0} → Result X Stop → (few left : Type 0) → Type 0
Ends (Ok x) few left = left
Ends (Err (failures.Why unread.Unexpected)) few left = ⊥
Ends (Err (failures.Why unread.TooDeep)) few left = few → ⊥
Ends (Err failures.NoMemory) few left = ⊤

-- a token and where it stands
pub record Spot : Type 0 where
  pub terminal : Terminal
  pub place : ℕ

-- the leaves are these tokens, and stand where a tree says
abbrev pub StandAt : List Leaf → List Spot → Type 0
StandAt leaves spots = AllZip (λ leaf spot. (leaf.terminal ≡ spot.terminal) × IfSome leaf.place (λ place. place ≡ spot.place)) leaves spots

-- where the tokens of a text stand
abbrev pub spots_of : List ℕ → List Token → List Spot
spots_of text tokens = map (λ token. record { terminal = terminal_of text token; place = token.start }) tokens

-- what has been read is the front of a word of the language, and this is the rest of that word
pub record Front (source : Source) (old new : Cursor) (Word : List Leaf → Type 0) (rest : List Spot) : Type 0 where
  pub read : List Leaf
  pub reads : Reads source old new read
  pub whole : List Leaf
  pub word : Word whole
  pub stands : StandAt whole (spots_of source.text.now reads.tokens ++ rest)

-- how far reading comes: over a word; over the front of one; over the front of one that goes on with a bracket too many
abbrev pub Leads : {X : Type 0} → Source → (old new : Cursor) → (List Leaf → Type 0) → Result X Stop → Type 0
Leads source old new Word (Ok x) = Front source old new Word []
Leads source old new Word (Err (failures.Why unread.Unexpected)) = (rest : List Spot) × Front source old new Word rest
Leads source old new Word (Err (failures.Why unread.TooDeep)) = (spot : Spot) × (rest : List Spot) × Front source old new Word (spot ∷ rest) × (next source new ≡ Some spot.terminal) × (64 < open_behind new.depth spot.terminal)
Leads source old new Word (Err failures.NoMemory) = ⊤

-- a reader takes words of this language, wherever such a token follows
pub record Takes {X : Type 0} (source : Source) (old new : Cursor) (Word : List Leaf → Type 0) (Follow : Option Terminal → Type 0) (result : Result X Stop) : Type 0 where
  pub forward : old.at ≤ new.at
  pub takes : (w u v : List Leaf) → AgreesUpTo source new w → Word u → Behind Follow v → drop old.at w ≡ u ++ v → Ends result (AreFewOpen old.depth (u ++ v)) (Leaves old new w (u ++ v) v)
  pub leads : Leads source old new Word result

-- parts with commas between them, at least one
abbrev pub Commas : {X : Type 0} → (X → Type 0) → (X → List Leaf) → List Leaf → Type 0
Commas Is leaves = Part (λ xs. IsNonempty xs × All Is xs) (λ xs. commas (map leaves xs))

-- no comma, and what may follow a part
abbrev pub is_comma : Option Terminal → Bool
is_comma (Some (symbol symbols.Comma)) = true
is_comma _ = false

abbrev pub NoComma : (Option Terminal → Type 0) → Option Terminal → Type 0
NoComma Follow next = Follow next × (is_comma next ≡ false)
