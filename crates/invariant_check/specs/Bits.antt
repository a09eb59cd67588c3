-- The bits of words of a bit-level circuit, one word after another, bit 0 first: their names, and the values of those
-- of registers. Registers are the circuit's words of latches. Their bits are numbered from 1, and an invariant's
-- clauses are over these numbers.
use Rattle.std.specs.Prelude.{ℕ, zero, suc, false, List, [], ◌∷◌, ◌++◌, codes, decimal, flat_map, slice_index_or}
use Rattle.kw_bits.specs.BitVector.{BitVector}
use Rattle.clause_check.specs.Clauses.{Assignment}
use Rattle.aig_blast.specs.AigRun.{bits_of}
use Rattle.aig_blast.specs.declared.aig.InputWord.{InputWord}
use Rattle.aig_blast.specs.declared.aig.LatchWord.{LatchWord}

-- `NAME[I]`
abbrev pub bit_name : List ℕ → ℕ → List ℕ
bit_name name bit = name ++ codes "[" ++ decimal bit ++ codes "]"

-- the names of a word's first bits, this many
abbrev pub bit_names : List ℕ → ℕ → List (List ℕ)
bit_names name zero = []
bit_names name (suc k) = bit_names name k ++ bit_name name k ∷ []

-- the names of the bits of registers, and of inputs
abbrev pub register_bits : List LatchWord → List (List ℕ)
register_bits latches = flat_map (λ (word : LatchWord). bit_names word.name word.first.width) latches

abbrev pub input_bits : List InputWord → List (List ℕ)
input_bits inputs = flat_map (λ (word : InputWord). bit_names word.name word.width) inputs

-- the values of the bits of registers, by their numbers
abbrev pub bit_values : List BitVector → Assignment
bit_values registers bit = slice_index_or (false ∷ bits_of registers) bit false
