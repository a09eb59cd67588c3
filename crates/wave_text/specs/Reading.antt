-- What a value change dump says, read back (IEEE 1364-2005, clause 18): the value that a variable has at a time by the
-- changes of a text. Nothing here says which text is written.
use Rattle.std.specs.Prelude.{◌≡◌, ℕ, ◌+◌, ◌-◌, ◌*◌, ◌^◌, ◌<◌, ◌≤◌, ◌==◌, ◌||◌, Bool, false, if◌then◌else◌, Option, None, Some, List, [], ◌∷◌, length, bytes_eq, codes, nat_lt, slice_get}
use Rattle.std.specs.List.{slice_split}
use Rattle.std.specs.Str.Parse.{digits_value}
use Rattle.typed_core.specs.Widths.{HaveWidths}
use Rattle.one_rule.specs.Run.{InputsByCycle}
use Rattle.one_rule.specs.declared.rows.Row.{Row}
use Rattle.stim_report.specs.Shapes.{RowsMatch, widths_of}
use Rattle.stim_report.specs.declared.shape.Shape.{Shape}
use Rattle.wave_text.specs.Waves.{body, code, moments, variables}
use Rattle.wave_text.specs.declared.level.Level.{Level}
use Rattle.wave_text.specs.declared.level.Level.TheVariants.{Unknown, Known}
use Rattle.wave_text.specs.declared.variable.Variable.{Variable}

-- ---- lines

-- what a line says: a time begins, the variable with a code gets a value, or neither
pub data Said : Type 0 where
  begins : ℕ → Said
  gives : List ℕ → Level → Said
  neither : Said

-- the value of one bit: 0, 1 or x
abbrev pub bit_level : ℕ → Level
bit_level digit = if digit == 120 then Unknown else Known (digit - 48)

-- the value of a vector: binary digits or x
abbrev pub vector_level : List ℕ → Level
vector_level digits = if bytes_eq digits (codes "x") then Unknown else Known (digits_value 2 digits)

-- the digits of a vector and its code
abbrev pub vector_said : List (List ℕ) → Said
vector_said [] = neither
vector_said (digits ∷ []) = neither
vector_said (digits ∷ code ∷ []) = gives code (vector_level digits)
vector_said (digits ∷ code ∷ next ∷ more) = neither

-- the bytes begin with the digit of one bit
abbrev pub is_bit : ℕ → Bool
is_bit first = (first == 48) || (first == 49) || (first == 120)

-- what a line says by its first byte
abbrev pub said_by_first : ℕ → List ℕ → Said
said_by_first first bytes =
    if first == 35 then begins (digits_value 10 bytes)
    else (if first == 98 then vector_said (slice_split (λ b. b == 32) bytes)
    else (if is_bit first then gives bytes (bit_level first) else neither))

-- what a line says
unfoldable pub said_by : List ℕ → Said
said_by [] = neither
said_by (first ∷ bytes) = said_by_first first bytes

-- ---- values

-- a time after this one begins
abbrev pub is_later : ℕ → Said → Bool
is_later at (begins time) = nat_lt at time
is_later at (gives code level) = false
is_later at neither = false

-- the value of the variable with a code, after a line
abbrev pub value_after : List ℕ → Option Level → Said → Option Level
value_after code held (begins time) = held
value_after code held (gives other level) = if bytes_eq other code then Some level else held
value_after code held neither = held

-- its value after the lines up to the first that begins a later time
abbrev pub value_by : List ℕ → ℕ → Option Level → List (List ℕ) → Option Level
value_by code at held [] = held
value_by code at held (line ∷ lines) = if is_later at (said_by line) then held else value_by code at (value_after code held (said_by line)) lines

-- its value at a time by the changes of a text, if it has one
unfoldable pub value_at : List ℕ → List ℕ → ℕ → Option Level
value_at text code at = value_by code at None (slice_split (λ b. b == 10) text)

-- ---- the law

-- a run of a system of this shape, with inputs that fit it, of at most 2^32 rows and variables
pub record IsRun (shape : Shape) (inputs : InputsByCycle) (rows : List Row) : Type 0 where
  pub rows_fit : RowsMatch shape rows
  pub inputs_fit : (cycle : ℕ) → HaveWidths (widths_of shape.inputs) (inputs cycle)
  pub few_rows : length rows ≤ 2 ^ 32
  pub few_variables : length (variables shape) ≤ 2 ^ 32

-- by the changes of its dump each variable has the run's value from a rising edge up to the next one
abbrev pub ReadsBack : Type 0
ReadsBack = (shape : Shape) (inputs : InputsByCycle) (rows : List Row) → IsRun shape inputs rows
    → (cycle after number : ℕ) (now : List Level) (v : Variable) (level : Level) → after < 10
    → slice_get (moments shape inputs 0 rows) cycle ≡ Some now → slice_get (variables shape) number ≡ Some v → slice_get now number ≡ Some level
    → value_at (body shape inputs rows) (code v) (10 * cycle + after) ≡ Some level

-- by the changes of its dump the clock is 1 from a rising edge on, and 0 from the middle of the cycle on
abbrev pub ClockReadsBack : Type 0
ClockReadsBack = (shape : Shape) (inputs : InputsByCycle) (rows : List Row) → IsRun shape inputs rows
    → (cycle after : ℕ) → after < 10 → cycle < length rows
    → value_at (body shape inputs rows) (codes "c") (10 * cycle + after) ≡ Some (Known (if nat_lt after 5 then 1 else 0))
