-- What tokens of digits are read as. Any byte counts as a digit here, and a number keeps its lowest bits: what was
-- read is printed again and compared, so a token that isn't printed so isn't taken.
use Rattle.std.specs.Prelude.{ℕ, ◌+◌, ◌*◌, ◌%◌, ◌^◌, nat_lt, if◌then◌else◌, List}
use Rattle.std.specs.List.{fold}

-- a number with one more decimal digit
abbrev pub with_decimal : ℕ → ℕ → ℕ
with_decimal number byte = (number * 10 % 2 ^ 32 + byte % 16) % 2 ^ 32

abbrev pub number_read : List ℕ → ℕ
number_read token = fold with_decimal 0 token

-- a number with one more hexadecimal digit
abbrev pub hex_read : ℕ → ℕ
hex_read byte = if nat_lt byte 64 then byte % 16 else byte % 16 + 9

abbrev pub with_hex : ℕ → ℕ → ℕ
with_hex number byte = (number * 16 % 2 ^ 128 + hex_read byte) % 2 ^ 128

abbrev pub value_read : List ℕ → ℕ
value_read digits = fold with_hex 0 digits
