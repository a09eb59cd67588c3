-- The tokens of a line of a refutation.
use Rattle.std.specs.Prelude.{ℕ, List}
use Rattle.kw_base.specs.Texts.{is_blank, words_of}

-- what is between spaces and tabs
abbrev pub tokens_of : List ℕ → List (List ℕ)
tokens_of line = words_of is_blank line
