-- The number that a word of a command line writes: decimal digits, at most ten of them.
use Rattle.std.specs.Prelude.{ℕ, ◌+◌, ◌-◌, ◌*◌, ◌&&◌, nat_le, Bool, List, length, fold, Option, Some, None, if◌then◌else◌}
use Rattle.std.specs.List.{list_all}
use Rattle.std.specs.Char.{is_ascii_digit}

-- the number that decimal digits write
abbrev pub value_of : List ℕ → ℕ
value_of digits = fold (λ value digit. 10 * value + (digit - 48)) 0 digits

-- one to ten decimal digits
abbrev pub are_few_digits : List ℕ → Bool
are_few_digits word = nat_le 1 (length word) && nat_le (length word) 10 && list_all is_ascii_digit word

-- the number that one to ten digits write, if 32 bits hold it
abbrev pub number_of_word : List ℕ → Option ℕ
number_of_word word = if are_few_digits word && nat_le (value_of word) 4294967295 then Some (value_of word) else None
