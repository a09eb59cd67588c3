-- The assignments of a stimulus: `name=value`, the value a number in decimal, or after `0x` in hexadecimal. This
-- project's own text form.
use Rattle.std.specs.Prelude.{ℕ, ◌+◌, ◌-◌, ◌^◌, ◌==◌, ◌&&◌, not, nat_eq, nat_lt, if◌then◌else◌, Bool, false, Option, None, Some, option_and_then, option_map, Result, Ok, Err, List, [], ◌∷◌, length, take, drop, slice_index, position, bytes_eq}
use Rattle.std.specs.List.{list_any, suffix_len}
use Rattle.std.specs.Str.Parse.{digits_value}
use Rattle.one_rule.specs.Stimulus.{Assignment}
use Rattle.kw_base.specs.Texts.{is_numeral}
use Rattle.stim_report.specs.Shapes.{widths_of}
use Rattle.stim_report.specs.declared.shape.NameWidth.{NameWidth}

-- the number that digits of a base write
abbrev pub numeral : ℕ → List ℕ → Option ℕ
numeral radix digits = if is_numeral radix digits then Some (digits_value radix digits) else None

-- the bytes begin with `0x`
abbrev pub is_hexadecimal : List ℕ → Bool
is_hexadecimal [] = false
is_hexadecimal (first ∷ []) = false
is_hexadecimal (first ∷ second ∷ bytes) = (first == 48) && (second == 120)

-- the number that a value writes
unfoldable pub value_written : List ℕ → Option ℕ
value_written value = if is_hexadecimal value then numeral 16 (drop 2 value) else numeral 10 value

-- how many bytes come after the last `=`
abbrev pub behind_equals : List ℕ → ℕ
behind_equals word = suffix_len (λ b. not (b == 61)) word

-- a name and a value: what comes before the last `=`, if anything does, and what comes after it
unfoldable pub name_and_value : List ℕ → Option (List ℕ × List ℕ)
name_and_value word =
    if nat_lt (behind_equals word + 1) (length word)
    then Some (take (length word - behind_equals word - 1) word, drop (length word - behind_equals word) word)
    else None

-- the same with the number that the value writes
abbrev pub name_and_number : List ℕ → Option (List ℕ × ℕ)
name_and_number word = option_and_then (λ (parts : List ℕ × List ℕ). option_map (λ (number : ℕ). (parts.0, number)) (value_written parts.1)) (name_and_value word)

-- the first input of a name
abbrev pub input_by_name : List NameWidth → List ℕ → Option ℕ
input_by_name inputs name = position (λ (input : NameWidth). bytes_eq name input.name) inputs

-- the input is assigned
abbrev pub is_assigned : List Assignment → ℕ → Bool
is_assigned line input = list_any (λ (a : Assignment). nat_eq a.0 input) line

-- a number for an input of a width, where the line doesn't assign that input before; else the number of a fault
abbrev pub assigned : List Assignment → ℕ → ℕ → ℕ → Result Assignment ℕ
assigned line input width number =
    if is_assigned line input then Err 30
    else (if nat_lt number (2 ^ width) then Ok (input, record { width = width; number = number }) else Err 32)

-- the same where the input was looked for
abbrev pub assigned_to : List NameWidth → List Assignment → Option ℕ → ℕ → Result Assignment ℕ
assigned_to inputs line None number = Err 31
assigned_to inputs line (Some input) number = assigned line input (slice_index (widths_of inputs) input) number

-- and where the word was read
abbrev pub assigned_by : List NameWidth → List Assignment → Option (List ℕ × ℕ) → Result Assignment ℕ
assigned_by inputs line None = Err 30
assigned_by inputs line (Some parts) = assigned_to inputs line (input_by_name inputs parts.0) parts.1

-- what a word of a line gives after what the line assigns before: an assignment, or the number of a fault
unfoldable pub assignment_of : List NameWidth → List Assignment → List ℕ → Result Assignment ℕ
assignment_of inputs line word = assigned_by inputs line (name_and_number word)
