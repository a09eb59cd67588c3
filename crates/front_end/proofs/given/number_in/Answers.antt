use Rattle.std.proofs.Common.{rules, ◌≡◌, ◌∙◌, ap}
use Rattle.std.specs.Prelude.{option_and_then}
use Rattle.clap.specs.Words.{found_of}
use Rattle.clap.proofs.WalkLemmas.{first_value-rows}
use Rattle.front_end.specs.NumberWords.{number_of_word}
use Rattle.front_end.proofs.given.number_in.Goals as goal

pub returns-in-Some : goal.returns-in-Some
returns-in-Some c =
    let read : c.number_of.result ≡ number_of_word c.in-Some.word.now = search rules in
    read ∙ ap (option_and_then number_of_word) (c.in-Some.ensures ∙ first_value-rows (found_of c.args.matches.now) c.args.id.now)

pub returns-in-None : goal.returns-in-None
returns-in-None c = ap (option_and_then number_of_word) (c.in-None.ensures ∙ first_value-rows (found_of c.args.matches.now) c.args.id.now)
