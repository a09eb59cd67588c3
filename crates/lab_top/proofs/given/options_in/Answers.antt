use Rattle.std.proofs.Common.{◌∙◌, codes}
use Rattle.clap.specs.Words.{found_of, one_text}
use Rattle.clap.proofs.WalkLemmas.{one_text-rows}
use Rattle.lab_top.proofs.ReadWords.{given_by_flag, options_same}
use Rattle.lab_top.proofs.given.options_in.Goals as goal

pub returns : goal.returns
returns c options give =
    let found = found_of c.args.matches.now in
    let strict =
    given_by_flag (one_text found (codes "strict")) c.get_flag.result options.is_strict (one_text-rows found (codes "strict") ∙ give.strict) c.get_flag.ensures.value c.get_flag.ensures.other in
    options_same _ options (c.number_in.ensures ∙ give.cycle) (c.number_in-2.ensures ∙ give.cycles) (c.in_ok-name_in.ensures ∙ give.rule) strict
