-- What reading a BTOR2 file line by line gives: its lines, or the fault of the first line that has one, 54 where
-- it is of a form of BTOR2 that is left out, 50 where it is malformed. Lines without a token are skipped.
use Rattle.std.specs.Prelude.{◌≡◌, ℕ, ◌⊎◌, List, [], ◌∷◌, ◌++◌, Option, None, Some, Result, Ok, Err}
use Rattle.std.specs.Option.{option_to_list}
use Rattle.kw_base.specs.Fault.{fault_at}
use Rattle.kw_base.specs.declared.fault.Fault.{Fault}
use Rattle.kw_base.specs.declared.place.Place.{Place}
use Rattle.btor2_text.specs.Cut.{lines_of, number_after, tokens_of}
use Rattle.btor2_text.specs.Lines.{IsLine, IsOutside, IsMalformed}
use Rattle.btor2_text.specs.declared.line.Line.{Line}

-- the place of a line's fault: its first column
abbrev pub line_place : ℕ → Place
line_place number = record { line = number; column = 1 }

-- the tokens of the line of this number give nothing, a line, or a fault
abbrev pub Gives : (number : ℕ) → List (List ℕ) → Result (Option Line) Fault → Type 0
Gives number tokens (Ok None) = tokens ≡ []
Gives number tokens (Ok (Some line)) = IsLine number tokens line
Gives number tokens (Err fault) =
    (IsOutside tokens × (fault ≡ fault_at 54 (line_place number))) ⊎ (IsMalformed tokens × (fault ≡ fault_at 50 (line_place number)))

-- the texts, numbered from this number on, are these lines
abbrev pub AreLines : (number : ℕ) → List (List ℕ) → List Line → Type 0
AreLines number [] lines = lines ≡ []
AreLines number (text ∷ texts) lines =
    (read : Option Line) × (others : List Line) × (lines ≡ option_to_list read ++ others) × Gives number (tokens_of text) (Ok read) × AreLines (number_after number) texts others

-- the first fault of the texts, numbered from this number on
abbrev pub IsFirstLineFault : (number : ℕ) → List (List ℕ) → Fault → Type 0
IsFirstLineFault number [] fault = ⊥
IsFirstLineFault number (text ∷ texts) fault =
    Gives number (tokens_of text) (Err fault) ⊎ ((read : Option Line) × Gives number (tokens_of text) (Ok read) × IsFirstLineFault (number_after number) texts fault)

-- a text's lines
abbrev pub AreLinesOf : List ℕ → List Line → Type 0
AreLinesOf text lines = AreLines 1 (lines_of text) lines

-- a text's first fault
abbrev pub IsFirstFaultOf : List ℕ → Fault → Type 0
IsFirstFaultOf text fault = IsFirstLineFault 1 (lines_of text) fault
