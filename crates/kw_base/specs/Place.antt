-- The place of a byte in a text, as editors and compilers count it: lines and columns from 1, columns in
-- bytes, and a line ends at its line feed (POSIX, 3.206). Places keep 32 bits: what is above stays at the
-- greatest number.
use Rattle.std.specs.Prelude.{ℕ, ◌+◌, ◌==◌, not, List, take, count_by, min}
use Rattle.std.specs.List.{suffix_len}
use Rattle.kw_base.specs.declared.place.Place.{Place}

-- a number of 32 bits, the greatest where it does not fit
abbrev pub capped : ℕ → ℕ
capped n = min n 4294967295

-- one more than the line feeds of what comes before
abbrev pub line_after : List ℕ → ℕ
line_after front = capped (1 + count_by (λ b. b == 10) front)

-- one more than the bytes that came since the last line feed
abbrev pub column_after : List ℕ → ℕ
column_after front = capped (1 + suffix_len (λ b. not (b == 10)) front)

-- the place of the byte at an offset, or of the end of the text
unfoldable pub place_at : List ℕ → ℕ → Place
place_at text offset = record { line = line_after (take offset text); column = column_after (take offset text) }
