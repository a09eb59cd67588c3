-- What an accepted AIGER text means, by its own lines and literals: the value of a literal is that of the line that
-- defines its variable. A latch has its reset before the first step, and the value of its next literal after each. AIGER
-- (Biere, 2007; resets: Biere, Heljanko and Wieringa, 2011). It knows no numbering of variables but the text's own.
use Rattle.std.specs.Prelude.{◌≡◌, ℕ, zero, suc, ◌+◌, ◌/◌, ◌%◌, ◌&&◌, Bool, false, nat_eq, if◌then◌else◌, List, [], ◌∷◌, ◌++◌, map, take, drop, Option, Ok}
use Rattle.kw_bits.specs.BitVector.{BitVector}
use Rattle.one_rule.specs.Run.{InputsByCycle}
use Rattle.one_rule.specs.declared.rows.Row.{Row}
use Rattle.stim_report.specs.declared.shape.Shape.{Shape}
use Rattle.aig_blast.specs.AigRun.{bits_of, run_of}
use Rattle.aig_blast.specs.Aigs.{AigParts}
use Rattle.aig_blast.specs.BitLists.{as_bits, xor}
use Rattle.aig_blast.specs.declared.aig.InputWord.{InputWord}
use Rattle.aig_blast.specs.declared.gate.Gate.{Gate}
use Rattle.aiger_text.specs.Acceptance.{accepted_text}
use Rattle.aiger_text.specs.AigShapes.{of_input, shape_of}
use Rattle.aiger_text.specs.Drafts.{Draft}
use Rattle.aiger_text.specs.Runs.{name_or, words_of_bits}

-- the values of variables where none is true; variable 0 stays so, and literal 0 is false and 1 true
abbrev pub all_false : ℕ → Bool
all_false variable = false

-- the values of variables where one has this value, and the others have theirs
abbrev pub with_variable : (ℕ → Bool) → ℕ → Bool → ℕ → Bool
with_variable values variable value other = if nat_eq other variable then value else values other

-- the value of a literal: that of its variable, and the opposite where the literal is odd
abbrev pub value_of_literal : (ℕ → Bool) → ℕ → Bool
value_of_literal values lit = xor (nat_eq (lit % 2) 1) (values (lit / 2))

-- the value of a gate: true where both of its literals are
abbrev pub value_of_gate : (ℕ → Bool) → Gate → Bool
value_of_gate values gate = value_of_literal values gate.left && value_of_literal values gate.right

-- the values with those of gates, whose lines define these variables in order
abbrev pub with_gate_lines : (ℕ → Bool) → List ℕ → List Gate → ℕ → Bool
with_gate_lines values variables [] = values
with_gate_lines values [] (gate ∷ gates) = values
with_gate_lines values (variable ∷ variables) (gate ∷ gates) =
    with_gate_lines (with_variable values variable (value_of_gate values gate)) variables gates

-- the values with those of all lines, which define these variables in order: inputs and latches have these bits, and the
-- variables after them are those of gates
abbrev pub with_lines : (ℕ → Bool) → List ℕ → List Bool → List Gate → ℕ → Bool
with_lines values variables [] gates = with_gate_lines values variables gates
with_lines values [] (bit ∷ bits) gates = values
with_lines values (variable ∷ variables) (bit ∷ bits) gates = with_lines (with_variable values variable bit) variables bits gates

-- the values of all variables in a step, by the words of the inputs and the bits of the latches
abbrev pub values_in_step : Draft → List BitVector → List Bool → ℕ → Bool
values_in_step d inputs latches = with_lines all_false d.variables (bits_of inputs ++ latches) d.gates

-- the latches before the first step, and after the step of each cycle
abbrev pub latches_after : Draft → InputsByCycle → ℕ → List Bool
latches_after d inputs zero = d.resets
latches_after d inputs (suc last) = map (value_of_literal (values_in_step d (inputs (suc last)) (latches_after d inputs last))) d.nexts

-- the outputs before the first step, which are false, and in the step of each cycle
abbrev pub outputs_after : Draft → InputsByCycle → ℕ → List Bool
outputs_after d inputs zero = map (λ (lit : ℕ). false) d.lits
outputs_after d inputs (suc last) = map (value_of_literal (values_in_step d (inputs (suc last)) (latches_after d inputs last))) d.lits

-- bits in words as wide as these, in order
abbrev pub bits_in_words : List InputWord → List Bool → List BitVector
bits_in_words [] bits = []
bits_in_words (word ∷ words) bits = as_bits (take word.width bits) ∷ bits_in_words words (drop word.width bits)

-- the row of a cycle: the latches in words, and the outputs
abbrev pub text_row : Draft → InputsByCycle → ℕ → Row
text_row d inputs cycle =
    record { regs = bits_in_words (words_of_bits 108 d.latches) (latches_after d inputs cycle); fired = outputs_after d inputs cycle }

-- the rows of that many cycles, the first of which is this one
unfoldable pub text_rows : Draft → InputsByCycle → ℕ → ℕ → List Row
text_rows d inputs cycle zero = []
text_rows d inputs cycle (suc count) = text_row d inputs cycle ∷ text_rows d inputs (suc cycle) count

-- the run of a text for n cycles: a row before all steps, and one for each cycle
abbrev pub text_run : Draft → InputsByCycle → ℕ → List Row
text_run d inputs n = text_rows d inputs 0 (suc n)

-- the names of outputs by their symbols, the first of which has this index
abbrev pub names_of_outputs : ℕ → List (Option (List ℕ)) → List (List ℕ)
names_of_outputs index [] = []
names_of_outputs index (symbol ∷ symbols) = name_or 111 index symbol ∷ names_of_outputs (index + 1) symbols

-- what reports show of a text: its inputs and latches in words, and its outputs
abbrev pub text_shape : Draft → Shape
text_shape d =
    record {
      inputs = map of_input (words_of_bits 105 d.inputs);
      registers = map of_input (words_of_bits 108 d.latches);
      rules = names_of_outputs 0 d.outputs;
    }

-- the circuit is one of what lines say: it has their words and outputs, and their run on all inputs
pub record IsGraphOf (d : Draft) (a : AigParts) : Type 0 where
  pub shape : shape_of a ≡ text_shape d
  pub run : (inputs : InputsByCycle) (n : ℕ) → run_of a inputs n ≡ text_run d inputs n

-- the text is accepted, and the circuit is one of what it says
pub record HasGraph (text : List ℕ) (a : AigParts) : Type 0 where
  pub said : Draft
  pub reads : accepted_text text ≡ Ok said
  pub graph : IsGraphOf said a
