-- What the lines of an AIGER text say, one after another: after the header that many lines for inputs, latches,
-- outputs and gates, in this order, then symbols. AIGER ASCII (Biere, Heljanko and Wieringa, 2011), as this project
-- reads it: a reset is 0 or 1.
use Rattle.std.specs.Prelude.{ℕ, zero, suc, ◌/◌, ◌%◌, ◌||◌, Bool, false, if◌then◌else◌, nat_lt, nat_eq, List, [], ◌∷◌, ◌++◌, codes, length, bytes_eq, Option, None, Some, Result, Ok, Err}
use Rattle.std.specs.List.{list_any}
use Rattle.kw_base.specs.Fault.{fault_at}
use Rattle.kw_base.specs.declared.fault.Fault.{Fault}
use Rattle.aig_blast.specs.declared.gate.Gate.{Gate}
use Rattle.stim_report.specs.Stimuli.{after, next_line}
use Rattle.kw_base.specs.Texts.{front_of, rest_of}
use Rattle.aiger_text.specs.Cuts.{lines_of, not_blank, decimal_number, without_blanks, words_of}
use Rattle.aiger_text.specs.Headers.{header_of, line_numbers}
use Rattle.aiger_text.specs.Places.{is_defined}
use Rattle.aiger_text.specs.declared.header.Header.{Header}
use Rattle.aiger_text.specs.declared.numbers.LineNumbers.{LineNumbers}
use Rattle.aiger_text.specs.declared.numbers.LineNumbers.TheVariants as numbers
use Rattle.aiger_text.specs.declared.header.Section.{Section}
use Rattle.aiger_text.specs.declared.header.Section.TheVariants as sections

-- what the lines so far say: the variables that they define, in order; whether each input, latch and output has a
-- symbol, and which; the literals of the latches' next values, and whether their resets are 1; those of the outputs;
-- and the gates
pub record Draft : Type 0 where
  pub variables : List ℕ
  pub inputs : List (Option (List ℕ))
  pub latches : List (Option (List ℕ))
  pub outputs : List (Option (List ℕ))
  pub nexts : List ℕ
  pub resets : List Bool
  pub lits : List ℕ
  pub gates : List Gate

-- nothing of a text was read
abbrev pub no_lines : Draft
no_lines = record { variables = []; inputs = []; latches = []; outputs = []; nexts = []; resets = []; lits = []; gates = [] }

-- the variable of one of the literals is above the greatest
abbrev pub has_above : ℕ → List ℕ → Bool
has_above most lits = list_any (λ lit. nat_lt most (lit / 2)) lits

-- the least fault of a line that defines a literal, has these literals and this reset: 71 where a variable is above
-- the greatest, 72 where the variable is defined already, 73 where the literal is odd or a constant, 75 where the
-- reset is neither 0 nor 1
abbrev pub flaw_of : Header → List ℕ → ℕ → List ℕ → ℕ → Option ℕ
flaw_of h variables defined lits reset =
    if has_above h.most lits then Some 71
    else (if is_defined variables (defined / 2) then Some 72
    else (if nat_lt defined 2 || nat_eq (defined % 2) 1 then Some 73
    else (if nat_lt 1 reset then Some 75 else None)))

-- the draft, unless there is a fault
abbrev pub unless : Option ℕ → Draft → Result Draft ℕ
unless (Some fault) d = Err fault
unless None d = Ok d

-- what the lines say where a line defines the variable of a literal, and with one input, latch, output or gate more
abbrev pub defined : Draft → ℕ → Draft
defined d lit = record d { variables = d.variables ++ lit / 2 ∷ [] }

-- one more input, without a symbol so far
abbrev pub more_inputs : Draft → Draft
more_inputs d = record d { inputs = d.inputs ++ None ∷ [] }

-- one more latch, with its next literal and its reset value
abbrev pub more_latches : ℕ → ℕ → Draft → Draft
more_latches next reset d = record d { latches = d.latches ++ None ∷ []; nexts = d.nexts ++ next ∷ []; resets = d.resets ++ nat_eq reset 1 ∷ [] }

-- one more output, with its literal
abbrev pub more_outputs : ℕ → Draft → Draft
more_outputs lit d = record d { outputs = d.outputs ++ None ∷ []; lits = d.lits ++ lit ∷ [] }

-- one more gate, with its two literals
abbrev pub more_gates : ℕ → ℕ → Draft → Draft
more_gates left right d = record d { gates = d.gates ++ record { left = left; right = right } ∷ [] }

-- what they say with one line more, by its numbers, or the number of that line's fault
abbrev pub input_by : Header → Draft → ℕ → Result Draft ℕ
input_by h d lit = unless (flaw_of h d.variables lit (lit ∷ []) 0) (more_inputs (defined d lit))

-- a draft with a line of an input
abbrev pub with_input : Header → Draft → LineNumbers → Result Draft ℕ
with_input h d (numbers.One lit) = input_by h d lit
with_input h d _ = Err 70

-- a draft with a latch of these three literals, or their fault
abbrev pub latch_by : Header → Draft → ℕ → ℕ → ℕ → Result Draft ℕ
latch_by h d lit next reset = unless (flaw_of h d.variables lit (lit ∷ next ∷ []) reset) (more_latches next reset (defined d lit))

-- a draft with a line of a latch: two literals, or three with its reset value
abbrev pub with_latch : Header → Draft → LineNumbers → Result Draft ℕ
with_latch h d (numbers.Two lit next) = latch_by h d lit next 0
with_latch h d (numbers.Three lit next reset) = latch_by h d lit next reset
with_latch h d _ = Err 70

-- a draft with an output of this literal, or its fault
abbrev pub output_by : Header → Draft → ℕ → Result Draft ℕ
output_by h d lit = if has_above h.most (lit ∷ []) then Err 71 else Ok (more_outputs lit d)

-- a draft with a line of an output
abbrev pub with_output : Header → Draft → LineNumbers → Result Draft ℕ
with_output h d (numbers.One lit) = output_by h d lit
with_output h d _ = Err 70

-- a draft with a gate of these literals, or their fault
abbrev pub gate_by : Header → Draft → ℕ → ℕ → ℕ → Result Draft ℕ
gate_by h d lit left right = unless (flaw_of h d.variables lit (lit ∷ left ∷ right ∷ []) 0) (more_gates left right (defined d lit))

-- a draft with a line of a gate
abbrev pub with_gate : Header → Draft → LineNumbers → Result Draft ℕ
with_gate h d (numbers.Three lit left right) = gate_by h d lit left right
with_gate h d _ = Err 70

-- the symbols where one more is given: of two for one place the first counts
abbrev pub first_symbol : Option (List ℕ) → List ℕ → Option (List ℕ)
first_symbol (Some symbol) name = Some symbol
first_symbol None name = Some name

-- symbols, of which the one at this index has this name, where it had none
abbrev pub named_at : List (Option (List ℕ)) → ℕ → List ℕ → List (Option (List ℕ))
named_at [] k name = []
named_at (symbol ∷ symbols) zero name = first_symbol symbol name ∷ symbols
named_at (symbol ∷ symbols) (suc k) name = symbol ∷ named_at symbols k name

-- symbols with a name at an index that is there
abbrev pub put_symbol : List (Option (List ℕ)) → ℕ → List ℕ → Result (List (Option (List ℕ))) ℕ
put_symbol symbols k name = if nat_lt k (length symbols) then Ok (named_at symbols k name) else Err 70

-- a kind, `i`, `l` or `o`, right before an index; and a name of a byte or more after blanks
abbrev pub symbol_by : Draft → ℕ → ℕ → List ℕ → Result Draft ℕ
symbol_by d kind k name =
    if nat_eq kind 105 then after (put_symbol d.inputs k name) (λ inputs. Ok (record d { inputs = inputs }))
    else (if nat_eq kind 108 then after (put_symbol d.latches k name) (λ latches. Ok (record d { latches = latches }))
    else (if nat_eq kind 111 then after (put_symbol d.outputs k name) (λ outputs. Ok (record d { outputs = outputs })) else Err 70))

-- a draft with a symbol of a kind, if its index is a number and its name has a byte
abbrev pub symbol_at : Draft → ℕ → Option ℕ → List ℕ → Result Draft ℕ
symbol_at d kind None name = Err 70
symbol_at d kind (Some k) [] = Err 70
symbol_at d kind (Some k) (b ∷ bytes) = symbol_by d kind k (b ∷ bytes)

-- a draft with a symbol whose word is a letter and an index
abbrev pub symbol_of : Draft → List ℕ → List ℕ → Result Draft ℕ
symbol_of d [] name = Err 70
symbol_of d (kind ∷ digits) name = symbol_at d kind (decimal_number digits) name

-- the first word of a line
abbrev pub word_before : List ℕ → List ℕ
word_before line = front_of not_blank (without_blanks line)

-- what follows the first word of a line
abbrev pub name_after : List ℕ → List ℕ
name_after line = without_blanks (rest_of not_blank (without_blanks line))

-- a draft with a line of a symbol
abbrev pub with_symbol : Draft → List ℕ → Result Draft ℕ
with_symbol d line = symbol_of d (word_before line) (name_after line)

-- what the next line is for
abbrev pub section_of : Header → Draft → Section
section_of h d =
    if nat_lt (length d.inputs) h.inputs then sections.Input
    else (if nat_lt (length d.latches) h.latches then sections.Latch
    else (if nat_lt (length d.outputs) h.outputs then sections.Output
    else (if nat_lt (length d.gates) h.gates then sections.Gate else sections.Symbol)))

-- what the lines say with one more, or the fault of that line
abbrev pub with_line_in : Section → Header → Draft → List ℕ → Result Draft ℕ
with_line_in sections.Input h d line = with_input h d (line_numbers line)
with_line_in sections.Latch h d line = with_latch h d (line_numbers line)
with_line_in sections.Output h d line = with_output h d (line_numbers line)
with_line_in sections.Gate h d line = with_gate h d (line_numbers line)
with_line_in sections.Symbol h d line = with_symbol d line

-- a draft with one more line, by the section that the draft has come to
unfoldable pub with_line : Header → Draft → List ℕ → Result Draft ℕ
with_line h d line = with_line_in (section_of h d) h d line

-- a line `c` after the gates ends the text
abbrev pub is_end : Section → List ℕ → Bool
is_end sections.Symbol line = bytes_eq line (codes "c")
is_end sections.Input line = false
is_end sections.Latch line = false
is_end sections.Output line = false
is_end sections.Gate line = false

-- a fault at the first column of the line of a number
abbrev pub fault_in : ℕ → ℕ → Fault
fault_in fault number = fault_at fault (record { line = number; column = 1 })

-- where no line is left, all that the header counts is there
abbrev pub ended : Section → Draft → ℕ → Result Draft Fault
ended sections.Symbol d number = Ok d
ended sections.Input d number = Err (fault_in 70 number)
ended sections.Latch d number = Err (fault_in 70 number)
ended sections.Output d number = Err (fault_in 70 number)
ended sections.Gate d number = Err (fault_in 70 number)

-- a draft, or the fault in the line of this number
abbrev pub in_line : Result Draft ℕ → ℕ → Result Draft Fault
in_line (Ok d) number = Ok d
in_line (Err fault) number = Err (fault_in fault number)

-- what the lines say with these, the first of this number, or the first fault
abbrev pub draft_from : Header → Draft → ℕ → List (List ℕ) → Result Draft Fault
draft_from h d number [] = ended (section_of h d) d number
draft_from h d number (line ∷ lines) =
    if is_end (section_of h d) line then Ok d
    else after (in_line (with_line h d line) number) (λ more. draft_from h more (next_line number) lines)

-- what the lines after a header say, if there is a header
abbrev pub draft_by : Option Header → List (List ℕ) → Result Draft Fault
draft_by None lines = Err (fault_in 70 1)
draft_by (Some h) lines = draft_from h no_lines 2 lines

-- what the lines of a text say, the header first
abbrev pub draft_in : List (List ℕ) → Result Draft Fault
draft_in [] = Err (fault_in 70 1)
draft_in (line ∷ lines) = draft_by (header_of (words_of line)) lines

-- what a text says, or its first fault
unfoldable pub draft_of : List ℕ → Result Draft Fault
draft_of text = draft_in (lines_of text)
