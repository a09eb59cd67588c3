-- What the reader of command lines is told of the options, and which options the rows that it finds give.
use Rattle.std.specs.Prelude.{◌≡◌, ℕ, List, codes, Option, Some, option_and_then}
use Rattle.clap.specs.Walk.{Row, Rule, Text, first_of, one_of}
use Rattle.clap.specs.Simple.{App, with_rule}
use Rattle.front_end.specs.Given.{bare, flag_rule, flag_text, number_in, valued_rule}
use Rattle.lab_top.specs.Words.{name_of}
use Rattle.lab_top.specs.declared.words.Options.{Options}

abbrev pub cycle_rule : Rule
cycle_rule = valued_rule (codes "cycle")

abbrev pub cycles_rule : Rule
cycles_rule = valued_rule (codes "cycles")

abbrev pub name_rule : Rule
name_rule = valued_rule (codes "rule")

abbrev pub strict_rule : Rule
strict_rule = flag_rule (codes "strict")

-- the options of a command
abbrev pub options_app : Text → App
options_app name =
    with_rule (with_rule (with_rule (with_rule (bare name) cycle_rule) cycles_rule) name_rule) strict_rule

-- the name that the first value of an argument is
abbrev pub name_in : Text → List Row → Option (List ℕ)
name_in id rows = option_and_then name_of (first_of id rows)

-- the rows give these options
pub record Give (rows : List Row) (options : Options) : Type 0 where
  pub cycle : number_in (codes "cycle") rows ≡ options.cycle
  pub cycles : number_in (codes "cycles") rows ≡ options.cycles
  pub rule : name_in (codes "rule") rows ≡ options.rule
  pub strict : one_of (codes "strict") rows ≡ Some (flag_text options.is_strict)
