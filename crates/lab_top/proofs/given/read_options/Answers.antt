use Rattle.std.proofs.Common.{◌≡◌, ◌∙◌, IfOk, Option, Some, Result, Ok, Err, ap, map, string_bytes, subst, sym}
use Rattle.clap.specs.Words.{is_simple, matches_of, takes}
use Rattle.lab_top.specs.Words.{options_of}
use Rattle.lab_top.specs.inner.Given.{Give}
use Rattle.lab_top.specs.declared.words.Options.{Options}
use Rattle.lab_top.proofs.ReadWords.{options_are_simple, words_are_read}
use Rattle.lab_top.proofs.given.read_options.Goals as goal

pub want_of_memory-requires : goal.want_of_memory-requires
want_of_memory-requires c =
    let words = map string_bytes c.args.words.now in
    let read = words_are_read c.args.name.now words c.requires.valid in
    c.in-Err.ensures.passes (ap (λ app. takes app words) c.in_ok-command.ensures ∙ read.2.taken)

-- what the rows give is what the words give
found-given : {E : Type 0} (r : Result Options E) (found : Option Options) (o : Options) (Rows : Options → Type 0) → found ≡ Some o → Rows o → IfOk r (λ read. (options : Options) → Rows options → read ≡ options) → IfOk r (λ options. found ≡ Some options)
found-given (Ok read) found o Rows is rows h = is ∙ ap (λ p. Some p) (sym (h o rows))
found-given (Err e) found o Rows is rows h = h

pub returns-in-Ok : goal.returns-in-Ok
returns-in-Ok c =
    let words = map string_bytes c.args.words.now in
    let app_is = c.in_ok-command.ensures in
    let read = words_are_read c.args.name.now words c.requires.valid in
    let found = c.in-Ok.ensures.matches (ap is_simple app_is ∙ options_are_simple c.args.name.now) in
    let rows_are = found.0 ∙ ap (λ app. matches_of app words) app_is in
    found-given c.options_in.result (options_of words) read.0 (Give _) read.1 (subst (λ rows. Give rows read.0) (sym rows_are) read.2.gives) c.options_in.ensures
