-- The stimulus that a text gives, or its first fault: line by line, and in each line word by word.
use Rattle.std.specs.Prelude.{ℕ, ◌+◌, List, [], ◌∷◌, ◌++◌, Result, Ok, Err}
use Rattle.kw_base.specs.Fault.{fault_at}
use Rattle.kw_base.specs.Place.{capped}
use Rattle.kw_base.specs.declared.fault.Fault.{Fault}
use Rattle.kw_base.specs.declared.place.Place.{Place}
use Rattle.kw_bits.specs.BitVector.{BitVector}
use Rattle.one_rule.specs.Stimulus.{Assignment, InputVectors, inputs_by}
use Rattle.stim_report.specs.Assignments.{assignment_of}
use Rattle.kw_base.specs.Texts.{is_blank, lines_of, words_from}
use Rattle.stim_report.specs.Shapes.{widths_of}
use Rattle.stim_report.specs.declared.shape.NameWidth.{NameWidth}
use Rattle.stim_report.specs.declared.shape.Shape.{Shape}

-- what follows a value; a fault stays
abbrev pub after : {X Y E : Type 0} → Result X E → (X → Result Y E) → Result Y E
after (Ok x) f = f x
after (Err e) f = Err e

-- the place of a column in a line
abbrev pub place : ℕ → ℕ → Place
place line column = record { line = line; column = capped column }

-- a fault of this number, there
abbrev pub at_place : {X : Type 0} → Place → Result X ℕ → Result X Fault
at_place place (Ok x) = Ok x
at_place place (Err number) = Err (fault_at number place)

-- the assignments of words of the line of this number, after those that it assigns before
abbrev pub line_from : List NameWidth → ℕ → List Assignment → List (ℕ × List ℕ) → Result (List Assignment) Fault
line_from inputs number line [] = Ok line
line_from inputs number line (word ∷ words) =
    after (at_place (place number word.0) (assignment_of inputs line word.1)) (λ (a : Assignment). line_from inputs number (line ++ a ∷ []) words)

-- the assignments of a line
unfoldable pub line_of : List NameWidth → ℕ → List ℕ → Result (List Assignment) Fault
line_of inputs number bytes = line_from inputs number [] (words_from is_blank 1 bytes)

-- the number of the next line
abbrev pub next_line : ℕ → ℕ
next_line number = capped (number + 1)

-- the values of the inputs by each line, the first of them of this number
abbrev pub cycles_from : List NameWidth → ℕ → List (List ℕ) → Result (List (List BitVector)) Fault
cycles_from inputs number [] = Ok []
cycles_from inputs number (line ∷ lines) =
    after (line_of inputs number line) (λ (given : List Assignment).
    after (cycles_from inputs (next_line number) lines) (λ (cycles : List (List BitVector)). Ok (inputs_by (widths_of inputs) given ∷ cycles)))

-- the stimulus of a text for the inputs of a shape; its first line has this number
unfoldable pub stimulus_of : Shape → ℕ → List ℕ → Result InputVectors Fault
stimulus_of shape first_line text =
    after (cycles_from shape.inputs first_line (lines_of text)) (λ (cycles : List (List BitVector)). Ok (record { widths = widths_of shape.inputs; cycles = cycles }))
