-- What the reader of command lines is told of commands and their options, and what is read of the rows that it finds.
use Rattle.std.specs.Prelude.{ℕ, Bool, true, false, List, codes, Option, Some, option_and_then}
use Rattle.clap.specs.Walk.{Row, Rule, Text, first_of}
use Rattle.clap.specs.Simple.{App, new_app, new_rule, on_top}
use Rattle.clap.specs.declared.builder.action.ArgAction.TheVariants.{SetTrue}
use Rattle.front_end.specs.NumberWords.{number_of_word}

-- a command to which all words belong, and that knows no word of its own
abbrev pub bare : Text → App
bare name = on_top (λ s. record s { no_binary_name = true; disable_help_flag = true }) (new_app name)

-- an option that has a value
abbrev pub valued_rule : Text → Rule
valued_rule name = record (new_rule name) { long = Some name }

-- an option that has none
abbrev pub flag_rule : Text → Rule
flag_rule name = record (new_rule name) { long = Some name; action = Some SetTrue }

-- the number that the first value of an argument writes
abbrev pub number_in : Text → List Row → Option ℕ
number_in id rows = option_and_then number_of_word (first_of id rows)

-- how a flag tells whether it is given
abbrev pub flag_text : Bool → Text
flag_text false = codes "false"
flag_text true = codes "true"
