-- The value change dump of a run (IEEE 1364-2005, clause 18, the four-state form): the text that shows the inputs, the
-- registers and the rules of a run as signals over time. A cycle is ten units of time. It begins at a rising edge of the
-- clock, at which the registers change, and the clock falls in its middle.
use Rattle.std.specs.Prelude.{ℕ, zero, suc, ◌+◌, ◌*◌, ◌/◌, ◌%◌, ◌^◌, ◌==◌, if◌then◌else◌, Bool, true, false, List, [], ◌∷◌, ◌++◌, length, map, replicate, codes, decimal}
use Rattle.kw_bits.specs.BitVector.{BitVector}
use Rattle.one_rule.specs.Run.{InputsByCycle}
use Rattle.one_rule.specs.declared.rows.Row.{Row}
use Rattle.stim_report.specs.declared.shape.NameWidth.{NameWidth}
use Rattle.stim_report.specs.declared.shape.Shape.{Shape}
use Rattle.wave_text.specs.declared.level.Level.{Level}
use Rattle.wave_text.specs.declared.level.Level.TheVariants.{Unknown, Known}
use Rattle.wave_text.specs.declared.variable.VariableKind.{VariableKind}
use Rattle.wave_text.specs.declared.variable.VariableKind.TheVariants.{Input, Register, Rule}
use Rattle.wave_text.specs.declared.variable.Variable.{Variable}

-- ---- variables

-- a rule as a signal of one bit
abbrev pub of_rule : List ℕ → NameWidth
of_rule name = record { name = name; width = 1 }

-- the variables of these names and widths, numbered from this number on
abbrev pub numbered : VariableKind → ℕ → List NameWidth → List Variable
numbered kind number [] = []
numbered kind number (one ∷ more) = record { kind = kind; number = number; width = one.width } ∷ numbered kind (number + 1) more

-- all variables but the clock: the inputs, the registers and the rules, each in order of declaration
abbrev pub variables : Shape → List Variable
variables shape = numbered Input 0 shape.inputs ++ numbered Register 0 shape.registers ++ numbered Rule 0 (map of_rule shape.rules)

-- the letter of a variable that shows this
abbrev pub letter : VariableKind → ℕ
letter Input = 105
letter Register = 114
letter Rule = 102

-- the identifier code of a variable: the letter for what it shows, and its number
abbrev pub code : Variable → List ℕ
code v = letter v.kind ∷ decimal v.number

-- ---- declarations

-- a line of the text
abbrev pub line : List ℕ → List ℕ
line bytes = bytes ++ 10 ∷ []

-- the type of a variable
abbrev pub type_of : VariableKind → List ℕ
type_of Input = codes "wire"
type_of Register = codes "reg"
type_of Rule = codes "wire"

-- the declaration of a variable: its type, width, identifier code and name
abbrev pub declaration : Variable → List ℕ → List ℕ
declaration v name = line (codes "$var " ++ type_of v.kind ++ 32 ∷ decimal v.width ++ 32 ∷ code v ++ 32 ∷ name ++ codes " $end")

-- those of the variables of these names and widths, numbered from this number on
abbrev pub declarations : VariableKind → ℕ → List NameWidth → List ℕ
declarations kind number [] = []
declarations kind number (one ∷ more) = declaration (record { kind = kind; number = number; width = one.width }) one.name ++ declarations kind (number + 1) more

-- a scope and what is inside it
unfoldable pub scope : List ℕ → List ℕ → List ℕ
scope name inside = line (codes "$scope module " ++ name ++ codes " $end") ++ inside ++ line (codes "$upscope $end")

-- all that comes before the first time
unfoldable pub head : Shape → List ℕ
head shape =
    line (codes "$timescale 1 ns $end")
    ++ scope (codes "design") (line (codes "$var wire 1 c clk $end")
    ++ scope (codes "inputs") (declarations Input 0 shape.inputs)
    ++ scope (codes "registers") (declarations Register 0 shape.registers)
    ++ scope (codes "rules") (declarations Rule 0 (map of_rule shape.rules)))
    ++ line (codes "$enddefinitions $end")

-- ---- changes

-- the binary digits of a number below 2 to this count, the highest first
abbrev pub binary_digits : ℕ → ℕ → List ℕ
binary_digits zero number = []
binary_digits (suc place) number = (48 + number / 2 ^ place % 2) ∷ binary_digits place number

-- digits without the zeros that lead them; one digit stays
abbrev pub without_leading_zeros : List ℕ → List ℕ
without_leading_zeros [] = []
without_leading_zeros (digit ∷ []) = digit ∷ []
without_leading_zeros (digit ∷ next ∷ digits) = if digit == 48 then without_leading_zeros (next ∷ digits) else digit ∷ next ∷ digits

-- the binary digits of a number below 2^128
unfoldable pub binary : ℕ → List ℕ
binary number = without_leading_zeros (binary_digits 128 number)

-- the digit of a value of one bit, `x` where it isn't known
abbrev pub bit_text : Level → ℕ
bit_text Unknown = 120
bit_text (Known number) = 48 + number % 2

-- the binary digits of a vector's value, `x` where it isn't known
abbrev pub vector_text : Level → List ℕ
vector_text Unknown = codes "x"
vector_text (Known number) = binary number

-- the line that gives a variable a value
abbrev pub change : Variable → Level → List ℕ
change v level = if v.width == 1 then line (bit_text level ∷ code v) else line (98 ∷ vector_text level ++ 32 ∷ code v)

-- whether a value is the one before; an unknown value differs from every value
abbrev pub is_same : Level → Level → Bool
is_same Unknown now = false
is_same (Known before) Unknown = false
is_same (Known before) (Known now) = before == now

-- the line of a variable, where its value differs from the one before
abbrev pub change_if : Variable → Level → Level → List ℕ
change_if v before now = if is_same before now then [] else change v now

-- the lines of the variables whose values differ
abbrev pub changes : List Variable → List Level → List Level → List ℕ
changes [] before now = []
changes (v ∷ vs) [] now = []
changes (v ∷ vs) (b ∷ before) [] = []
changes (v ∷ vs) (b ∷ before) (n ∷ now) = change_if v b n ++ changes vs before now

-- ---- times

-- the line of a time
abbrev pub time : ℕ → List ℕ
time at = line (35 ∷ decimal at)

-- what changes at a rising edge: the clock, and the variables
abbrev pub rise : List Variable → List Level → List Level → List ℕ
rise vs before now = line (codes "1c") ++ changes vs before now

-- the changes at time 0 are the initial values
abbrev pub marked : ℕ → List ℕ → List ℕ
marked zero text = line (codes "$dumpvars") ++ text ++ line (codes "$end")
marked (suc before) text = text

-- the rising edge after this many cycles, at which the values become these, and the falling edge after it
unfoldable pub edge : List Variable → ℕ → List Level → List Level → List ℕ
edge vs cycle before now = time (10 * cycle) ++ marked cycle (rise vs before now) ++ time (10 * cycle + 5) ++ line (codes "0c")

-- the edges at which the values become these, one after the other
abbrev pub edges : List Variable → ℕ → List Level → List (List Level) → List ℕ
edges vs cycle before [] = []
edges vs cycle before (now ∷ later) = edge vs cycle before now ++ edges vs (cycle + 1) now later

-- ---- runs

-- the value of a bit vector
abbrev pub known : BitVector → Level
known value = Known value.number

-- the value of a rule: 1 where it fires, else 0
abbrev pub flag : Bool → Level
flag false = Known 0
flag true = Known 1

-- the values of all variables: the inputs and the rules that fire in the cycle that begins, and the registers before it
abbrev pub levels : List BitVector → List BitVector → List Bool → List Level
levels inputs regs fired = map known inputs ++ map known regs ++ map flag fired

-- after the last cycle inputs and rules have no values
abbrev pub last_levels : Shape → List BitVector → List Level
last_levels shape regs = replicate (length shape.inputs) Unknown ++ map known regs ++ replicate (length shape.rules) Unknown

-- before the first time no variable has one
abbrev pub no_levels : Shape → List Level
no_levels shape = replicate (length (variables shape)) Unknown

-- the values at each rising edge of a run with these rows, the first of them that of this cycle
abbrev pub moments : Shape → InputsByCycle → ℕ → List Row → List (List Level)
moments shape inputs cycle [] = []
moments shape inputs cycle (row ∷ []) = last_levels shape row.regs ∷ []
moments shape inputs cycle (row ∷ next ∷ rows) = levels (inputs (cycle + 1)) row.regs next.fired ∷ moments shape inputs (cycle + 1) (next ∷ rows)

-- the changes of a run, up to the end of the cycle after the last one
unfoldable pub body : Shape → InputsByCycle → List Row → List ℕ
body shape inputs rows = edges (variables shape) 0 (no_levels shape) (moments shape inputs 0 rows) ++ time (10 * length rows)

-- the dump of a run
unfoldable pub dump : Shape → InputsByCycle → List Row → List ℕ
dump shape inputs rows = head shape ++ body shape inputs rows
