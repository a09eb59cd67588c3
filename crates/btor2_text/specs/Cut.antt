-- How a BTOR2 file is cut: into lines at its line feeds; and what a line has before its first `;`, at
-- spaces, tabs and carriage returns, into tokens. BTOR2 (Niemetz et al., CAV 2018).
use Rattle.std.specs.Prelude.{ℕ, ◌+◌, List}
use Rattle.std.specs.List.{slice_split, before_first}
use Rattle.kw_base.specs.Place.{capped}
use Rattle.kw_base.specs.Texts as texts
use Rattle.kw_base.specs.Texts.{ends_line, is_blank_or_return, is_semicolon}

-- the lines of a text
abbrev pub lines_of : List ℕ → List (List ℕ)
lines_of text = slice_split ends_line text

-- the number of the line after the line of a number: one more, as far as places go
abbrev pub number_after : ℕ → ℕ
number_after number = capped (number + 1)

-- the longest runs of bytes without a blank
abbrev pub words_of : List ℕ → List (List ℕ)
words_of bytes = texts.words_of is_blank_or_return bytes

-- the tokens of a line: those before its comment
abbrev pub tokens_of : List ℕ → List (List ℕ)
tokens_of line = words_of (before_first is_semicolon line)
