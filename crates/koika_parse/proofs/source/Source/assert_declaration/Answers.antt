use Rattle.koika_parse.proofs.DeclarationWords.{some_assert}
use Rattle.koika_parse.specs.inner.Words.{AssertWord}
use Rattle.koika_parse.proofs.Reading.{shorter}
use Rattle.koika_parse.proofs.Expected.{last_part, fails, fails_last, begin}
use Rattle.koika_parse.proofs.Steps.{◌past◌, ◌then◌}
use Rattle.koika_parse.proofs.source.Source.assert_declaration.Goals as goal

pub returns-clause-read : goal.returns-clause-read
returns-clause-read c = c.in_ok-name.ensures.read then c.in_ok-sign.ensures.read

pub returns-clause-some : goal.returns-clause-some
returns-clause-some c = shorter (returns-clause-read c)

pub returns-in_err-name-clause-takes : goal.returns-in_err-name-clause-takes
returns-in_err-name-clause-takes c = fails _ c.from_residual.ensures (begin AssertWord some_assert) c.in_err-name.ensures.takes

pub returns-in_err-sign-clause-takes : goal.returns-in_err-sign-clause-takes
returns-in_err-sign-clause-takes c =
    let name = begin AssertWord some_assert past c.in_ok-name.ensures.takes in
    fails_last _ c.from_residual-in_err-sign.ensures name c.in_err-sign.ensures.takes

pub returns-clause-takes : goal.returns-clause-takes
returns-clause-takes c = last_part _ (begin AssertWord some_assert past c.in_ok-name.ensures.takes) c.in_ok-sign.ensures.takes
