-- How the bytes of a session are cut: a design up to its line `%%`, and after it a line for each cycle; and which
-- values the lines give to the inputs, up to the first line that has a fault. This project's own text form.
use Rattle.std.specs.Prelude.{ℕ, ◌+◌, ◌-◌, nat_lt, if◌then◌else◌, List, [], ◌∷◌, length, take, Option, None, Some}
use Rattle.std.specs.Prelude.{Result, Ok, Err}
use Rattle.std.specs.List.{slice_split}
use Rattle.kw_base.specs.declared.fault.Fault.{Fault}
use Rattle.kw_bits.specs.BitVector.{BitVector}
use Rattle.koika_check.specs.declared.checked.Checked.{Checked}
use Rattle.one_rule.specs.Stimulus.{Assignment, inputs_by}
use Rattle.kw_base.specs.Texts.{but_empty_last, ends_line, without_return}
use Rattle.stim_report.specs.Cuts.{parts_of}
use Rattle.stim_report.specs.Shapes.{widths_of}
use Rattle.stim_report.specs.Stimuli.{after, line_of, next_line}
use Rattle.stim_report.specs.declared.shape.NameWidth.{NameWidth}
use Rattle.front_end.specs.Sources.{fault_of_source, longest_source, shape_of}

-- a session may have this many cycles
abbrev pub most_cycles : ℕ
most_cycles = 16777216

-- the bytes up to the end of the line `%%`, with its line feed; all where there is no such line
unfoldable pub head_of : List ℕ → List ℕ
head_of bytes = take (length bytes - length (parts_of bytes).stimulus) bytes

-- the lines of bytes, each without its line feed; nothing after the last line feed is no line
abbrev pub lines_in : List ℕ → List (List ℕ)
lines_in bytes = but_empty_last (slice_split ends_line bytes)

-- the values that the line of this number in the source gives to the inputs in a cycle, or the line's fault: it is too
-- long, it is one line too many, or it has a wrong assignment
abbrev pub inputs_on : List NameWidth → (cycle number : ℕ) → List ℕ → Result (List BitVector) Fault
inputs_on inputs cycle number line =
    if nat_lt longest_source (length line) then Err (fault_of_source 40)
    else if nat_lt most_cycles cycle then Err (fault_of_source 45)
    else after (line_of inputs number (without_return line))
    (λ (given : List Assignment). Ok (inputs_by (widths_of inputs) given))

-- the values of the inputs in cycle 1 and so on, and the fault that ends them, if there is one
pub record Heard : Type 0 where
  pub cycles : List (List BitVector)
  pub fault : Option Fault

-- what a line gives, and after it the lines that follow; after a fault nothing counts
abbrev pub heard_then : Result (List BitVector) Fault → Heard → Heard
heard_then (Ok values) later = record { cycles = values ∷ later.cycles; fault = later.fault }
heard_then (Err fault) later = record { cycles = []; fault = Some fault }

-- what lines give, of which the first is that of this cycle and has this number in the source
abbrev pub heard_from : List NameWidth → (cycle number : ℕ) → List (List ℕ) → Heard
heard_from inputs cycle number [] = record { cycles = []; fault = None }
heard_from inputs cycle number (line ∷ lines) =
    heard_then (inputs_on inputs cycle number line) (heard_from inputs (cycle + 1) (next_line number) lines)

-- what the lines after the line `%%` give to the inputs of a design
abbrev pub heard : Checked → List ℕ → Heard
heard d bytes =
    let parts = parts_of bytes in
    heard_from (shape_of d).inputs 1 parts.first_line (lines_in parts.stimulus)
