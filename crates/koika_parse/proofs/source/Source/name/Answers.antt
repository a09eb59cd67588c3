use Rattle.std.proofs.Common.{ap, sym, ◌∙◌, ◌++◌}
use Rattle.std.specs.Option.{option_map}
use Rattle.koika_syntax.specs.Tree.{name_leaves, terminal_of}
use Rattle.koika_syntax.specs.Grammar.{IsName}
use Rattle.koika_parse.specs.inner.Expected.{Part, first}
use Rattle.koika_parse.proofs.Expected.{begin, kind_is, refused, named_terminal, last_part, fails_last}
use Rattle.koika_parse.proofs.Witnesses.{some_name}
use Rattle.koika_parse.proofs.Words.{one_name}
use Rattle.koika_parse.proofs.Names.{name_is}
use Rattle.koika_parse.proofs.source.Source.name.Goals as goal

pub returns-in_err-place-in-Some-clause-takes : goal.returns-in_err-place-in-Some-clause-takes
returns-in_err-place-in-Some-clause-takes c =
    let text = c.args.self.now.text.now in
    let at = ap (option_map (terminal_of text)) c.in-Some.ensures.at in
    fails_last _ c.from_residual-in_err-place-in-Some.ensures
    (one_name _ (name_is c.in-Some.ensures.name) (named_terminal text c.in-Some.token c.in-Some.ensures.kind) at)
    (c.in_err-place-in-Some.ensures.takes _ at)

pub returns-in_ok-place-in-Some-clause-takes : goal.returns-in_ok-place-in-Some-clause-takes
returns-in_ok-place-in-Some-clause-takes c =
    let text = c.args.self.now.text.now in
    let at = ap (option_map (terminal_of text)) c.in-Some.ensures.at in
    last_part _
    (one_name _ (name_is c.in-Some.ensures.name) (named_terminal text c.in-Some.token c.in-Some.ensures.kind) at)
    (c.in_ok-place-in-Some.ensures.takes _ at)

pub returns-in-None-clause-takes : goal.returns-in-None-clause-takes
returns-in-None-clause-takes c = refused (begin (Part IsName name_leaves) some_name) (λ r v word behind same.
    c.in-None.ensures.none (kind_is c.args.self.now c.args.cursor.now (ap (λ l. first (l ++ v)) (sym word.2) ∙ same)))
