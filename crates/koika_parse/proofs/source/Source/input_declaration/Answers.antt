use Rattle.koika_parse.specs.inner.Words.{InputWord}
use Rattle.koika_parse.proofs.DeclarationWords.{some_input}
use Rattle.koika_parse.proofs.Reading.{shorter}
use Rattle.koika_parse.proofs.Expected.{last_part, fails, fails_last, begin}
use Rattle.koika_parse.proofs.Steps.{◌past◌, ◌then◌}
use Rattle.koika_parse.proofs.source.Source.input_declaration.Goals as goal

pub returns-clause-read : goal.returns-clause-read
returns-clause-read c =
    c.in_ok-name.ensures.read then c.in_ok-sign.ensures.read then c.in_ok-of.ensures.read then c.in_ok-sign-2.ensures.read

pub returns-clause-some : goal.returns-clause-some
returns-clause-some c = shorter (returns-clause-read c)

pub returns-in_err-name-clause-takes : goal.returns-in_err-name-clause-takes
returns-in_err-name-clause-takes c = fails _ c.from_residual.ensures (begin InputWord some_input) c.in_err-name.ensures.takes

pub returns-in_err-sign-clause-takes : goal.returns-in_err-sign-clause-takes
returns-in_err-sign-clause-takes c =
    let named = begin InputWord some_input past c.in_ok-name.ensures.takes in
    fails _ c.from_residual-in_err-sign.ensures named c.in_err-sign.ensures.takes

pub returns-in_err-of-clause-takes : goal.returns-in_err-of-clause-takes
returns-in_err-of-clause-takes c =
    let colon = begin InputWord some_input past c.in_ok-name.ensures.takes past c.in_ok-sign.ensures.takes in
    fails _ c.from_residual-in_err-of.ensures colon c.in_err-of.ensures.takes

pub returns-in_err-sign-2-clause-takes : goal.returns-in_err-sign-2-clause-takes
returns-in_err-sign-2-clause-takes c =
    let colon = begin InputWord some_input past c.in_ok-name.ensures.takes past c.in_ok-sign.ensures.takes in
    fails_last _ c.from_residual-in_err-sign-2.ensures (colon past c.in_ok-of.ensures.takes) c.in_err-sign-2.ensures.takes

pub returns-clause-takes : goal.returns-clause-takes
returns-clause-takes c =
    let colon = begin InputWord some_input past c.in_ok-name.ensures.takes past c.in_ok-sign.ensures.takes in
    last_part _ (colon past c.in_ok-of.ensures.takes) c.in_ok-sign-2.ensures.takes
