-- The AIGER text of a bit-level circuit, in AIGER ASCII (Biere, Heljanko and Wieringa, 2011): a header, a line for
-- each input, latch, output and gate, in order, and a symbol for each input, latch and output. Bit k of the word `x`
-- has the symbol `x[k]`.
use Rattle.std.specs.Prelude.{ℕ, Bool, zero, suc, ◌+◌, ◌*◌, ◌/◌, ◌%◌, ◌^◌, nat_eq, if◌then◌else◌, List, [], ◌∷◌, ◌++◌, codes, decimal, length, slice_index_or}
use Rattle.std.specs.List.{flat_map}
use Rattle.aig_blast.specs.Aigs.{AigParts, input_word_widths, latch_widths, sources, variables}
use Rattle.std.specs.Prelude.{sum}
use Rattle.kw_bits.specs.BitVector.{BitVector}
use Rattle.aig_blast.specs.declared.aig.InputWord.{InputWord}
use Rattle.aig_blast.specs.declared.aig.LatchWord.{LatchWord}
use Rattle.aig_blast.specs.declared.aig.OutputBit.{OutputBit}
use Rattle.aig_blast.specs.declared.gate.Gate.{Gate}

-- a number after a space, and the rest of a line
abbrev pub spaced : ℕ → List ℕ
spaced number = 32 ∷ decimal number

-- numbers, each after a space, and a line feed
abbrev pub rest_text : List ℕ → List ℕ
rest_text numbers = flat_map spaced numbers ++ 10 ∷ []

-- a line of numbers with one space between two
abbrev pub numbers_text : ℕ → List ℕ → List ℕ
numbers_text first others = decimal first ++ rest_text others

-- the texts for 0, 1 and so on, that many
abbrev pub texts_below : (ℕ → List ℕ) → ℕ → List ℕ
texts_below f zero = []
texts_below f (suc k) = texts_below f k ++ f k

-- the texts of items that count for as many numbers as they are wide, from a number on
abbrev pub laid : {X : Type 0} → (X → ℕ) → (ℕ → X → List ℕ) → ℕ → List X → List ℕ
laid width f number [] = []
laid width f number (x ∷ xs) = f number x ++ laid width f (number + width x) xs

-- the lines of a word of inputs, and of latches, whose first variable is this one
abbrev pub input_lines : ℕ → ℕ → List ℕ
input_lines variable width = texts_below (λ k. numbers_text (2 * (variable + k)) []) width

-- the lines of an input word, one for each bit
abbrev pub input_word_text : ℕ → InputWord → List ℕ
input_word_text variable word = input_lines variable word.width

-- a reset is written where it is 1
abbrev pub reset_text : Bool → List ℕ
reset_text reset = if reset then 1 ∷ [] else []

-- the line of a latch: its literal, its next literal, and its reset value where it is 1
abbrev pub latch_line : ℕ → ℕ → List ℕ → ℕ → List ℕ
latch_line variable resets nexts k = numbers_text (2 * (variable + k)) (slice_index_or nexts k 0 ∷ reset_text (nat_eq (resets / 2 ^ k % 2) 1))

-- the lines of the latches of a word, bit 0 first
abbrev pub latch_lines : ℕ → BitVector → List ℕ → List ℕ
latch_lines variable first nexts = texts_below (latch_line variable first.number nexts) first.width

-- the lines of a latch word
abbrev pub latch_word_text : ℕ → LatchWord → List ℕ
latch_word_text variable word = latch_lines variable word.first word.nexts

-- the line of an output
abbrev pub output_text : OutputBit → List ℕ
output_text output = numbers_text output.lit []

-- the line of a gate
abbrev pub gate_text : ℕ → Gate → List ℕ
gate_text variable gate = numbers_text (2 * variable) (gate.left ∷ gate.right ∷ [])

-- a symbol: a kind and an index, and a name
abbrev pub symbol_text : ℕ → ℕ → List ℕ → List ℕ
symbol_text kind index name = kind ∷ decimal index ++ 32 ∷ name ++ 10 ∷ []

-- the name of a bit of a word
abbrev pub bit_name : List ℕ → ℕ → List ℕ
bit_name name k = name ++ 91 ∷ decimal k ++ 93 ∷ []

-- the symbols of a word's bits, the first with this index
abbrev pub word_symbols : ℕ → ℕ → List ℕ → ℕ → List ℕ
word_symbols kind index name width = texts_below (λ k. symbol_text kind (index + k) (bit_name name k)) width

-- how many input lines an input word has
abbrev pub input_line_count : InputWord → ℕ
input_line_count word = word.width

-- how many latch lines a latch word has
abbrev pub latch_width_of : LatchWord → ℕ
latch_width_of word = word.first.width

-- an output has one line
abbrev pub one_of : {X : Type 0} → X → ℕ
one_of x = 1

-- the symbol lines of an input word
abbrev pub input_symbols : ℕ → InputWord → List ℕ
input_symbols index word = word_symbols 105 index word.name word.width

-- the symbol lines of a latch word
abbrev pub latch_symbols : ℕ → LatchWord → List ℕ
latch_symbols index word = word_symbols 108 index word.name word.first.width

-- the symbol line of an output
abbrev pub output_symbol : ℕ → OutputBit → List ℕ
output_symbol index output = symbol_text 111 index output.name

-- the text of a bit-level circuit
abbrev pub text_of : AigParts → List ℕ
text_of a =
    let inputs : ℕ = sum (input_word_widths a.inputs) in
    codes "aag" ++ rest_text (variables a ∷ inputs ∷ sum (latch_widths a.latches) ∷ length a.outputs ∷ length a.gates ∷ [])
    ++ laid input_line_count input_word_text 1 a.inputs ++ laid latch_width_of latch_word_text (1 + inputs) a.latches ++ flat_map output_text a.outputs
    ++ laid one_of gate_text (1 + sources a) a.gates
    ++ laid input_line_count input_symbols 0 a.inputs
    ++ laid latch_width_of latch_symbols 0 a.latches
    ++ laid one_of output_symbol 0 a.outputs
