-- How a text is cut into lines, a line into words, and what number digits write. Lines end at line feeds (POSIX, 3.206);
-- words are what is between blanks. Every reader of this project cites these definitions.
use Rattle.std.specs.Prelude.{◌≡◌, ℕ, ◌+◌, ◌-◌, ◌==◌, ◌||◌, ◌&&◌, Bool, true, false, if◌then◌else◌, Option, None, Some, List, [], ◌∷◌, length, map, take, slice_index}
use Rattle.std.specs.Char.{is_digit}
use Rattle.std.specs.List.{filter, list_all, slice_split}
use Rattle.kw_base.specs.declared.texts.Separator.{Separator}
use Rattle.kw_base.specs.declared.texts.Separator.TheVariants as at
use denote.Ref.{Bor}

-- ---- bytes

-- the line feed
abbrev pub ends_line : ℕ → Bool
ends_line b = b == 10

-- the carriage return
abbrev pub is_return : ℕ → Bool
is_return b = b == 13

-- the space
abbrev pub is_space : ℕ → Bool
is_space b = b == 32

-- a space or a tab
abbrev pub is_blank : ℕ → Bool
is_blank b = (b == 32) || (b == 9)

-- a space, a tab or a carriage return
abbrev pub is_blank_or_return : ℕ → Bool
is_blank_or_return b = ((b == 32) || (b == 9)) || (b == 13)

-- the semicolon
abbrev pub is_semicolon : ℕ → Bool
is_semicolon b = b == 59

-- the bytes at which a separator cuts
abbrev pub separates : Separator → ℕ → Bool
separates at.LineFeed = ends_line
separates at.Space = is_space
separates at.Blank = is_blank
separates at.BlankOrReturn = is_blank_or_return
separates at.Semicolon = is_semicolon

-- there is a byte
abbrev pub has_bytes : List ℕ → Bool
has_bytes [] = false
has_bytes (b ∷ bytes) = true

-- the bytes at the front that pass, up to the first one that doesn't
abbrev pub front_of : (ℕ → Bool) → List ℕ → List ℕ
front_of passes [] = []
front_of passes (b ∷ bytes) = if passes b then b ∷ front_of passes bytes else []

-- the bytes after those
abbrev pub rest_of : (ℕ → Bool) → List ℕ → List ℕ
rest_of passes [] = []
rest_of passes (b ∷ bytes) = if passes b then rest_of passes bytes else b ∷ bytes

-- the bytes don't begin with one that passes
abbrev pub StopsAt : (ℕ → Bool) → List ℕ → Type 0
StopsAt passes [] = Unit {0}
StopsAt passes (b ∷ bytes) = passes b ≡ false

-- the bytes, if there are any, begin with one that passes
abbrev pub BeginsWith : (ℕ → Bool) → List ℕ → Type 0
BeginsWith passes [] = Unit {0}
BeginsWith passes (b ∷ bytes) = passes b ≡ true

-- ---- pieces and lines

-- the pieces of what comes after a separator; after the end of the bytes there is none
abbrev pub pieces_after : Separator → Option (Bor (List ℕ)) → List (List ℕ)
pieces_after at None = []
pieces_after at (Some rest) = slice_split (separates at) rest.now

-- a line without the carriage return at its end
abbrev pub without_return : List ℕ → List ℕ
without_return line = if slice_index line (length line - 1) == 13 then take (length line - 1) line else line

-- nothing after the last line feed is no line
abbrev pub but_empty_last : List (List ℕ) → List (List ℕ)
but_empty_last [] = []
but_empty_last ([] ∷ []) = []
but_empty_last (piece ∷ pieces) = piece ∷ but_empty_last pieces

-- the lines of a text, with the carriage returns at their ends
abbrev pub whole_lines : List ℕ → List (List ℕ)
whole_lines text = but_empty_last (slice_split ends_line text)

-- the lines of a text
unfoldable pub lines_of : List ℕ → List (List ℕ)
lines_of text = map without_return (whole_lines text)

-- ---- words

-- the words of bytes: the longest runs of bytes at which they aren't cut
unfoldable pub words_of : (ℕ → Bool) → List ℕ → List (List ℕ)
words_of cuts bytes = filter has_bytes (slice_split cuts bytes)

-- pieces, the first at this column and each after one byte more, with their columns
abbrev pub with_columns : ℕ → List (List ℕ) → List (ℕ × List ℕ)
with_columns column [] = []
with_columns column (piece ∷ pieces) = (column, piece) ∷ with_columns (column + length piece + 1) pieces

-- the words of bytes that begin at a column, each with the column of its first byte
unfoldable pub words_from : (ℕ → Bool) → ℕ → List ℕ → List (ℕ × List ℕ)
words_from cuts column bytes = filter (λ (word : ℕ × List ℕ). has_bytes word.1) (with_columns column (slice_split cuts bytes))

-- ---- numbers

-- one digit or more in a base, and nothing else
abbrev pub is_numeral : ℕ → List ℕ → Bool
is_numeral radix bytes = has_bytes bytes && list_all (λ b. is_digit b radix) bytes
