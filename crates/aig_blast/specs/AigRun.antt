-- The run of a bit-level circuit, after AIGER (Biere, Heljanko and Wieringa, 2011): a latch has its reset before the first step
-- and the value of its next literal after each. A row has the words of latches after a step and the outputs in it.
use Rattle.std.specs.Prelude.{ℕ, zero, suc, ◌+◌, false, List, [], ◌∷◌, ◌++◌, Bool, map}
use Rattle.kw_bits.specs.BitVector.{BitVector}
use Rattle.aig_blast.specs.Aigs.{AigParts}
use Rattle.aig_blast.specs.BitLists.{as_bits}
use Rattle.aig_blast.specs.Graphs.{lit_value, values_over}
use Rattle.aig_blast.specs.Steps.{digits}
use Rattle.aig_blast.specs.declared.aig.LatchWord.{LatchWord}
use Rattle.aig_blast.specs.declared.aig.OutputBit.{OutputBit}
use Rattle.one_rule.specs.Run.{InputsByCycle}
use Rattle.one_rule.specs.declared.rows.Row.{Row}

-- the bits of words, one word after another, bit 0 first
abbrev pub bits_of : List BitVector → List Bool
bits_of [] = []
bits_of (word ∷ words) = digits word.number word.width ++ bits_of words

-- the values of the variables in a step that begins with these words in the latches
abbrev pub values_in : AigParts → List BitVector → List BitVector → List Bool
values_in a inputs states = values_over (bits_of inputs ++ bits_of states) a.gates

-- the words after a step, and the outputs in it, by the values of the variables
abbrev pub next_words : List LatchWord → List Bool → List BitVector
next_words latches values = map (λ (word : LatchWord). as_bits (map (lit_value values) word.nexts)) latches

-- the values of outputs, by those of all variables
abbrev pub outputs_in : List OutputBit → List Bool → List Bool
outputs_in outputs values = map (λ (output : OutputBit). lit_value values output.lit) outputs

-- the row after a step
abbrev pub row_after : AigParts → List BitVector → List BitVector → Row
row_after a inputs states =
    record { regs = next_words a.latches (values_in a inputs states); fired = outputs_in a.outputs (values_in a inputs states) }

-- the rows of this many cycles after the last one, from the words that it left
unfoldable pub rows_after : AigParts → InputsByCycle → ℕ → ℕ → List BitVector → List Row
rows_after a inputs zero last states = []
rows_after a inputs (suc count) last states =
    let row : Row = row_after a (inputs (last + 1)) states in
    row ∷ rows_after a inputs count (last + 1) row.regs

-- the first value of each word
abbrev pub first_words : List LatchWord → List BitVector
first_words latches = map (λ (word : LatchWord). word.first) latches

-- the row before all steps: the resets, and no output
abbrev pub first_row : AigParts → Row
first_row a = record { regs = first_words a.latches; fired = map (λ (output : OutputBit). false) a.outputs }

-- the run of a bit-level circuit for n cycles
abbrev pub run_of : AigParts → InputsByCycle → ℕ → List Row
run_of a inputs n = first_row a ∷ rows_after a inputs n 0 (first_words a.latches)
