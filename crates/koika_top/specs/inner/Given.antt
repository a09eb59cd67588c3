-- What the reader of command lines is told of the options of a run and of the word of `gen`, and which options the rows
-- that it finds give. Only contracts of private functions cite it.
use Rattle.std.specs.Prelude.{◌≡◌, true, List, codes, Option, Some, option_and_then}
use Rattle.clap.specs.Walk.{Row, Rule, Text, first_of, one_of}
use Rattle.clap.specs.Simple.{App, new_rule, with_rule}
use Rattle.koika_top.specs.Words.{engine_of}
use Rattle.front_end.specs.Given.{bare, flag_rule, flag_text, number_in, valued_rule}
use Rattle.koika_top.specs.declared.engine_kind.EngineKind.{EngineKind}
use Rattle.koika_top.specs.declared.shown.Shown.{Shown}
use Rattle.koika_top.specs.declared.shown.Shown.TheVariants.{Report, Summary}
use Rattle.koika_top.specs.declared.words.Options.{Options}

abbrev pub cycles_rule : Rule
cycles_rule = record (valued_rule (codes "cycles")) { required = true }

abbrev pub engine_rule : Rule
engine_rule = valued_rule (codes "engine")

abbrev pub workers_rule : Rule
workers_rule = valued_rule (codes "workers")

abbrev pub summary_rule : Rule
summary_rule = flag_rule (codes "summary")

abbrev pub journal_rule : Rule
journal_rule = flag_rule (codes "journal")

-- the options of a run
abbrev pub run_app : Text → App
run_app name = with_rule (with_rule (with_rule (with_rule (with_rule (bare name) cycles_rule) engine_rule) workers_rule) summary_rule) journal_rule

abbrev pub stages_rule : Rule
stages_rule = record (new_rule (codes "stages")) { required = true }

-- the one word of `gen`
abbrev pub gen_app : App
gen_app = with_rule (bare (codes "gen")) stages_rule

-- the engine that the first value of an argument names
abbrev pub engine_in : Text → List Row → Option EngineKind
engine_in id rows = option_and_then engine_of (first_of id rows)

-- how a flag tells whether a summary is wanted
abbrev pub flag_of : Shown → Text
flag_of Report = codes "false"
flag_of Summary = codes "true"

-- the rows give these options
pub record Give (rows : List Row) (options : Options) : Type 0 where
  pub cycles : number_in (codes "cycles") rows ≡ options.cycles
  pub engine : engine_in (codes "engine") rows ≡ options.engine
  pub workers : number_in (codes "workers") rows ≡ options.workers
  pub shown : one_of (codes "summary") rows ≡ Some (flag_of options.shown)
  pub journal : one_of (codes "journal") rows ≡ Some (flag_text options.journal)
