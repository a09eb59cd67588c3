-- The text of an obligation: a line `c NAME[I] U` for each bit of each register and then of each input, with the number
-- U of its variable, and the obligation in the form DIMACS CNF.
use Rattle.std.specs.Prelude.{ℕ, ◌+◌, List, [], ◌∷◌, ◌++◌, codes, decimal, sum}
use Rattle.clause_check.specs.Clauses.{Cnf}
use Rattle.clause_check.specs.Dimacs.{dimacs_of}
use Rattle.aig_blast.specs.Aigs.{AigParts, input_word_widths}
use Rattle.invariant_check.specs.Bits.{input_bits, register_bits}

abbrev pub bit_line : List ℕ → ℕ → List ℕ
bit_line name variable = codes "c " ++ name ++ codes " " ++ decimal variable ++ 10 ∷ []

-- lines for bits, whose variables are this one and those after it
abbrev pub bit_lines : ℕ → List (List ℕ) → List ℕ
bit_lines variable [] = []
bit_lines variable (name ∷ names) = bit_line name variable ++ bit_lines (variable + 1) names

-- in a circuit the inputs have the first variables, and the registers come after them
unfoldable pub text_of : AigParts → Cnf → List ℕ
text_of a formula =
    bit_lines (sum (input_word_widths a.inputs) + 1) (register_bits a.latches) ++ bit_lines 1 (input_bits a.inputs)
    ++ dimacs_of formula
