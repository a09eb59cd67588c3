use Rattle.std.proofs.Common.{◌∙◌, Some, ap, map, string_bytes, subst, sym}
use Rattle.clap.specs.Words.{is_simple, matches_of, takes}
use Rattle.koika_top.specs.inner.Given.{Give}
use Rattle.koika_top.proofs.ReadWords.{run_is_simple, words_are_read}
use Rattle.koika_top.proofs.given.read_options.Goals as goal

pub want_of_memory-requires : goal.want_of_memory-requires
want_of_memory-requires c =
    let words = map string_bytes c.args.words.now in
    let read = words_are_read c.args.name.now words c.requires.valid in
    c.in-Err.ensures.passes (ap (λ app. takes app words) c.in_ok-command.ensures ∙ read.2.taken)

pub returns-in-Ok : goal.returns-in-Ok
returns-in-Ok c =
    let words = map string_bytes c.args.words.now in
    let app_is = c.in_ok-command.ensures in
    let read = words_are_read c.args.name.now words c.requires.valid in
    let found = c.in-Ok.ensures.matches (ap is_simple app_is ∙ run_is_simple c.args.name.now) in
    let rows_are = found.0 ∙ ap (λ app. matches_of app words) app_is in
    read.1 ∙ ap (λ o. Some o) (sym (c.options_in.ensures read.0 (subst (λ rows. Give rows read.0) (sym rows_are) read.2.gives)))
