-- The words of a line, with their places: what is between spaces and tabs.
use Rattle.std.specs.Prelude.{ℕ, List}
use Rattle.kw_base.specs.Place.{capped}
use Rattle.kw_base.specs.Texts as texts
use Rattle.kw_base.specs.Texts.{is_blank}
use Rattle.kw_base.specs.declared.place.Place.{Place}

-- the words of bytes that begin at a column, each with the column of its first byte
abbrev pub words_from : ℕ → List ℕ → List (ℕ × List ℕ)
words_from column bytes = texts.words_from is_blank column bytes

-- the place of a column in a line
abbrev pub place_in : ℕ → ℕ → Place
place_in line column = record { line = line; column = capped column }
