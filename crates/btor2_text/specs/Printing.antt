-- The text of lines: each on a line of its own, with one space between two tokens, and numbers without leading zeros.
use Rattle.std.specs.Prelude.{ℕ, List, [], ◌∷◌, ◌++◌, codes, decimal}
use Rattle.std.specs.List.{flat_map}
use Rattle.std.specs.Option.{option_to_list}
use Rattle.btor2_text.specs.Forms.{keyword_text}
use Rattle.btor2_text.specs.declared.line.Argument.{Argument}
use Rattle.btor2_text.specs.declared.line.Argument.TheVariants as arguments
use Rattle.btor2_text.specs.declared.line.Line.{Line}

-- the token of an argument
abbrev pub argument_text : Argument → List ℕ
argument_text arguments.Bitvec = codes "bitvec"
argument_text (arguments.Id id) = decimal id
argument_text (arguments.Number number) = decimal number
argument_text (arguments.Numeral digits) = digits

-- a token after a space
abbrev pub spaced : List ℕ → List ℕ
spaced token = 32 ∷ token

-- the token of an argument after a space
abbrev pub spaced_argument : Argument → List ℕ
spaced_argument argument = spaced (argument_text argument)

-- the text of a line
abbrev pub line_text : Line → List ℕ
line_text line =
    decimal line.id ++ spaced (keyword_text line.keyword) ++ flat_map spaced_argument line.arguments
    ++ flat_map spaced (option_to_list line.symbol) ++ 10 ∷ []

-- the text of lines
abbrev pub text_of : List Line → List ℕ
text_of lines = flat_map line_text lines
