-- The numbers of an AIGER text's lines, and its header: `aag` and five numbers, the greatest variable and how many
-- inputs, latches, outputs and gates there are. AIGER ASCII (Biere, Heljanko and Wieringa, 2011).
use Rattle.std.specs.Prelude.{ℕ, ◌+◌, if◌then◌else◌, nat_le, List, [], ◌∷◌, codes, bytes_eq, Option, None, Some}
use Rattle.aiger_text.specs.Cuts.{numbers_of, words_of}
use Rattle.aiger_text.specs.declared.header.Header.{Header}
use Rattle.aiger_text.specs.declared.numbers.LineNumbers.{LineNumbers}
use Rattle.aiger_text.specs.declared.numbers.LineNumbers.TheVariants as numbers

-- the numbers of a line, if it has one, two or three and nothing else
abbrev pub numbers_by : Option (List ℕ) → LineNumbers
numbers_by (Some (a ∷ [])) = numbers.One a
numbers_by (Some (a ∷ b ∷ [])) = numbers.Two a b
numbers_by (Some (a ∷ b ∷ c ∷ [])) = numbers.Three a b c
numbers_by _ = numbers.Other

-- the numbers of a line, by how many there are
abbrev pub line_numbers : List ℕ → LineNumbers
line_numbers line = numbers_by (numbers_of (words_of line))

-- the header of a line: `aag` and five numbers, the first not less than the second, third and fifth together
abbrev pub header_by : Option (List ℕ) → Option Header
header_by (Some (m ∷ i ∷ l ∷ o ∷ a ∷ [])) =
    if nat_le (i + l + a) m then Some (record { most = m; inputs = i; latches = l; outputs = o; gates = a }) else None
header_by _ = None

-- the header that the words of the first line are
abbrev pub header_of : List (List ℕ) → Option Header
header_of [] = None
header_of (word ∷ words) = if bytes_eq word (codes "aag") then header_by (numbers_of words) else None
