use Rattle.std.proofs.Common.{refl, sym, ap, ◌∙◌, ◌++◌}
use Rattle.koika_syntax.specs.Grammar.{NumberFits}
use Rattle.koika_syntax.specs.Tree.{number_leaves}
use Rattle.koika_parse.specs.inner.Expected.{Part, first}
use Rattle.koika_parse.proofs.Expected.{begin, fails_last, last_part, refused, within}
use Rattle.koika_parse.proofs.Witnesses.{some_number}
use Rattle.koika_parse.proofs.Words.{one_number}
use Rattle.koika_parse.proofs.source.Source.number.Goals as goal

pub step-requires : goal.step-requires
step-requires c = within c.args.self.now c.args.cursor.now c.in-Some.ensures.at

pub returns-in-None-clause-takes : goal.returns-in-None-clause-takes
returns-in-None-clause-takes c = refused (begin (Part NumberFits number_leaves) some_number)
    (λ r v word behind same. c.in-None.ensures.none word.0.value (sym same ∙ ap (λ l. first (l ++ v)) word.2))

pub returns-in_err-place-in-Some-clause-takes : goal.returns-in_err-place-in-Some-clause-takes
returns-in_err-place-in-Some-clause-takes c = fails_last _ c.from_residual.ensures
    (one_number c.in-Some.value c.in-Some.ensures.small refl c.in-Some.ensures.at)
    (c.in_err-place-in-Some.ensures.takes _ c.in-Some.ensures.at)

pub returns-in_ok-place-in-Some-clause-takes : goal.returns-in_ok-place-in-Some-clause-takes
returns-in_ok-place-in-Some-clause-takes c = last_part _
    (one_number c.in-Some.value c.in-Some.ensures.small refl c.in-Some.ensures.at)
    (c.in_ok-place-in-Some.ensures.takes _ c.in-Some.ensures.at)
