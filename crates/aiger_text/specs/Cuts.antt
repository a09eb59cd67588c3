-- How an AIGER text is cut: into lines at its line feeds, without the carriage returns at their ends, and a line into
-- words at spaces and tabs. AIGER ASCII (Biere, Heljanko and Wieringa, 2011), as this project reads it.
use Rattle.std.specs.Prelude.{◌≡◌, ℕ, ◌<◌, ◌^◌, ◌&&◌, not, Bool, if◌then◌else◌, nat_lt, List, [], ◌∷◌, length, map, Option, None, Some}
use Rattle.std.specs.Str.Parse.{digits_value}
use Rattle.kw_base.specs.Texts as texts
use Rattle.kw_base.specs.Texts.{is_blank, is_numeral, is_return, rest_of, whole_lines}
use Rattle.kw_base.specs.declared.texts.Line.{Line}

-- a byte before a line's other bytes: a carriage return that nothing follows is left out
abbrev pub before_bytes : ℕ → List ℕ → List ℕ
before_bytes b [] = if is_return b then [] else b ∷ []
before_bytes b (c ∷ bytes) = b ∷ c ∷ bytes

-- a line without the carriage returns at its end
abbrev pub without_returns : List ℕ → List ℕ
without_returns [] = []
without_returns (b ∷ bytes) = before_bytes b (without_returns bytes)

-- the lines of a text
unfoldable pub lines_of : List ℕ → List (List ℕ)
lines_of text = map without_returns (whole_lines text)

-- the first line of a text, with what comes after it
pub record IsCutFrom (text : List ℕ) (line : Line) : Type 0 where
  pub first : lines_of text ≡ line.bytes.now ∷ lines_of line.rest.now
  pub shorter : length line.rest.now < length text

-- the words of a line
abbrev pub words_of : List ℕ → List (List ℕ)
words_of line = texts.words_of is_blank line

-- bytes without the blanks that they begin with
abbrev pub without_blanks : List ℕ → List ℕ
without_blanks bytes = rest_of is_blank bytes

-- a byte of a word
abbrev pub not_blank : ℕ → Bool
not_blank b = not (is_blank b)

-- the number that a word of decimal digits is, below 2^63
unfoldable pub decimal_number : List ℕ → Option ℕ
decimal_number word = if is_numeral 10 word && nat_lt (digits_value 10 word) (2 ^ 63) then Some (digits_value 10 word) else None

-- the numbers that words write, if each writes one
abbrev pub numbers_if_all : Option ℕ → Option (List ℕ) → Option (List ℕ)
numbers_if_all (Some number) (Some numbers) = Some (number ∷ numbers)
numbers_if_all (Some number) None = None
numbers_if_all None numbers = None

-- the numbers that words are, if all are numbers
abbrev pub numbers_of : List (List ℕ) → Option (List ℕ)
numbers_of [] = Some []
numbers_of (word ∷ words) = numbers_if_all (decimal_number word) (numbers_of words)
