use Rattle.std.proofs.Common.{rules, ◌≡◌, ◌∙◌, ap, codes, map, string_bytes, sym}
use Rattle.clap.specs.Words.{is_simple, matches_of, rule_of, takes}
use Rattle.front_end.specs.Given.{number_in}
use Rattle.koika_top.specs.inner.Given.{stages_rule}
use Rattle.koika_top.specs.Words.{gen_by}
use Rattle.koika_top.proofs.ReadWords.{gen_app-is, gen_is_simple, stages_are_read}
use Rattle.koika_top.proofs.given.read_stages.Goals as goal

pub want_of_memory-requires : goal.want_of_memory-requires
want_of_memory-requires c =
    let words = map string_bytes c.args.words.now in
    let stages_is : rule_of c.required-stages.result ≡ stages_rule = search rules in
    let app_is = gen_app-is c.bare.result c.in_ok-command.command _ c.bare.ensures c.in_ok-command.ensures stages_is (search rules) in
    c.in-Err.ensures.passes (ap (λ app. takes app words) app_is ∙ (stages_are_read words c.requires.valid).0)

pub returns-in-Ok : goal.returns-in-Ok
returns-in-Ok c =
    let words = map string_bytes c.args.words.now in
    let stages_is : rule_of c.required-stages.result ≡ stages_rule = search rules in
    let app_is = gen_app-is c.bare.result c.in_ok-command.command _ c.bare.ensures c.in_ok-command.ensures stages_is (search rules) in
    let found = c.in-Ok.ensures.matches (ap is_simple app_is ∙ gen_is_simple) in
    let rows_are = found.0 ∙ ap (λ app. matches_of app words) app_is in
    (stages_are_read words c.requires.valid).1 ∙ ap (λ rows. gen_by (number_in (codes "stages") rows)) (sym rows_are) ∙ ap gen_by (sym c.number_in.ensures)
