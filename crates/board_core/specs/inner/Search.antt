-- A search for the candidate of a number, for private functions alone: over the candidates so far, it has found it,
-- or that many are left to go past.
use Rattle.std.specs.Prelude.{◌≡◌, ℕ, ◌+◌, ◌<◌, Bool, not, ◌==◌, ◌&&◌, List, length, Some, slice_get}
use Rattle.typed_core.specs.declared.design.Rule.{Rule}
use Rattle.typed_core.specs.Continuations.{is_at}
use Rattle.board_core.specs.Board.{Board}
use Rattle.board_core.specs.Kept.{Kept, StandsFor}
use Rattle.board_core.specs.inner.Counts.{comes_open}
use Rattle.board_core.specs.declared.candidate.Candidate.{Candidate}
use Rattle.board_core.specs.declared.candidate.Search.{Search}
use Rattle.board_core.specs.declared.candidate.Search.TheVariants as search

-- what a search has found in a list
abbrev pub Finds : List Candidate → ℕ → Search → Type 0
Finds all number (search.Found c) = slice_get all number ≡ Some c
Finds all number (search.Left left) = left + length all ≡ number

-- the same in a list of every board that the core stands for
abbrev pub FindsIn : Kept → (Board → List Candidate) → ℕ → Search → Type 0
FindsIn kept all number found = (board : Board) → StandsFor kept board → Finds (all board) number found

-- what was found is a rule of the design
abbrev pub HasRule : List Rule → Search → Type 0
HasRule rules (search.Found c) = c.rule < length rules
HasRule rules (search.Left left) = Unit {0}

-- the pair is a further candidate
abbrev pub comes_further : Kept → Candidate → Bool
comes_further kept c = not ((c.cycle == kept.cycle) && is_at c.node kept.place.at) && comes_open kept c.cycle c.rule
