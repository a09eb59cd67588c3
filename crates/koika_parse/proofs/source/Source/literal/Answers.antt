use Rattle.std.proofs.Common.{refl, sym, ap, ◌∙◌, ◌++◌}
use Rattle.koika_syntax.specs.Grammar.{LiteralFits}
use Rattle.koika_syntax.specs.Tree.{literal_leaves}
use Rattle.koika_parse.specs.inner.Expected.{Part, first}
use Rattle.koika_parse.proofs.Expected.{begin, fails_last, last_part, refused, within}
use Rattle.koika_parse.proofs.Reading.{in_place_of}
use Rattle.koika_parse.proofs.Witnesses.{some_literal}
use Rattle.koika_parse.proofs.Words.{one_literal}
use Rattle.koika_parse.proofs.source.Source.literal.Goals as goal

pub step-requires : goal.step-requires
step-requires c = within c.args.self.now c.args.cursor.now c.in-Some.ensures.at

pub returns-in_ok-place-in-Some-clause-read : goal.returns-in_ok-place-in-Some-clause-read
returns-in_ok-place-in-Some-clause-read c = in_place_of literal_leaves c.literal_at.result c.literal_at.ensures.fields
    (c.in_ok-place-in-Some.ensures.read _ c.in-Some.ensures.at)

pub returns-in-None-clause-takes : goal.returns-in-None-clause-takes
returns-in-None-clause-takes c = refused (begin (Part LiteralFits literal_leaves) some_literal)
    (λ r v word behind same. c.in-None.ensures.none word.0.bits (sym same ∙ ap (λ l. first (l ++ v)) word.2))

pub returns-in_err-place-in-Some-clause-takes : goal.returns-in_err-place-in-Some-clause-takes
returns-in_err-place-in-Some-clause-takes c = fails_last _ c.from_residual.ensures
    (one_literal c.in-Some.bits c.in-Some.ensures.is refl c.in-Some.ensures.at)
    (c.in_err-place-in-Some.ensures.takes _ c.in-Some.ensures.at)

pub returns-in_ok-place-in-Some-clause-takes : goal.returns-in_ok-place-in-Some-clause-takes
returns-in_ok-place-in-Some-clause-takes c = last_part _
    (one_literal c.in-Some.bits c.in-Some.ensures.is refl c.in-Some.ensures.at)
    (c.in_ok-place-in-Some.ensures.takes _ c.in-Some.ensures.at)
