-- The report of a run: a line for each cycle from 0 on, with the rules that fired in it and the registers after it.
-- This project's own text form.
use Rattle.std.specs.Prelude.{ℕ, zero, suc, ◌+◌, ◌/◌, ◌%◌, ◌^◌, nat_lt, if◌then◌else◌, Bool, true, false, List, [], ◌∷◌, ◌++◌, codes, decimal}
use Rattle.std.specs.List.{flat_map}
use Rattle.kw_bits.specs.BitVector.{BitVector}
use Rattle.one_rule.specs.declared.rows.Row.{Row}
use Rattle.stim_report.specs.declared.shape.NameWidth.{NameWidth}
use Rattle.stim_report.specs.declared.shape.Shape.{Shape}

-- a hexadecimal digit in lower case
abbrev pub hex_digit : ℕ → ℕ
hex_digit n = if nat_lt n 10 then 48 + n else 87 + n

-- the lowest digits of a number, as many as count, the highest of them first
abbrev pub hex_digits : ℕ → ℕ → List ℕ
hex_digits zero number = []
hex_digits (suc count) number = hex_digit (number / 16 ^ count % 16) ∷ hex_digits count number

-- a number of this many bits has a digit for each four of them, and for what is left
abbrev pub hex : ℕ → ℕ → List ℕ
hex width number = hex_digits ((width + 3) / 4) number

-- the names of the rules that fired, in order of declaration
abbrev pub fired_names : List (List ℕ) → List Bool → List (List ℕ)
fired_names [] flags = []
fired_names (name ∷ names) [] = []
fired_names (name ∷ names) (true ∷ flags) = name ∷ fired_names names flags
fired_names (name ∷ names) (false ∷ flags) = fired_names names flags

-- each name after a comma
abbrev pub more_names : List (List ℕ) → List ℕ
more_names names = flat_map (λ name. 44 ∷ name) names

-- names with commas between them, or a dash where there is none
abbrev pub listed : List (List ℕ) → List ℕ
listed [] = codes "-"
listed (name ∷ names) = name ++ more_names names

-- a register's name, `=` and its value
abbrev pub value_text : NameWidth → BitVector → List ℕ
value_text register value = register.name ++ 61 ∷ hex register.width value.number

-- the same of each register, after a space
abbrev pub registers_text : List NameWidth → List BitVector → List ℕ
registers_text [] values = []
registers_text (register ∷ registers) [] = []
registers_text (register ∷ registers) (value ∷ values) = 32 ∷ value_text register value ++ registers_text registers values

-- the line of a cycle
abbrev pub line_of : Shape → ℕ → Row → List ℕ
line_of shape cycle row =
    64 ∷ decimal cycle ++ 32 ∷ listed (fired_names shape.rules row.fired) ++ registers_text shape.registers row.regs ++ 10 ∷ []

-- the lines of these rows, the first of them that of this cycle
abbrev pub lines_from : Shape → ℕ → List Row → List ℕ
lines_from shape cycle [] = []
lines_from shape cycle (row ∷ rows) = line_of shape cycle row ++ lines_from shape (cycle + 1) rows

-- the report of a run
abbrev pub report : Shape → List Row → List ℕ
report shape rows = lines_from shape 0 rows

-- the report of a run's part that begins after this cycle: its first row is the last of what came before, if anything
-- did
abbrev pub report_part : Shape → List Row → ℕ → List ℕ
report_part shape rows zero = report shape rows
report_part shape [] (suc before) = []
report_part shape (row ∷ rows) (suc before) = lines_from shape (suc before + 1) rows
