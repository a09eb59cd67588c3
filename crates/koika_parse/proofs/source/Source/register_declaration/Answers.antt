use Rattle.koika_parse.proofs.DeclarationWords.{some_register}
use Rattle.koika_parse.specs.inner.Words.{RegisterWord}
use Rattle.koika_parse.proofs.Reading.{shorter}
use Rattle.koika_parse.proofs.Expected.{last_part, fails, fails_last, begin}
use Rattle.koika_parse.proofs.Steps.{◌past◌, ◌then◌}
use Rattle.koika_parse.proofs.source.Source.register_declaration.Goals as goal

pub returns-clause-read : goal.returns-clause-read
returns-clause-read c =
    c.in_ok-name.ensures.read then c.in_ok-sign.ensures.read then c.in_ok-of.ensures.read then c.in_ok-sign-2.ensures.read
    then c.in_ok-first.ensures.read then c.in_ok-sign-3.ensures.read

pub returns-clause-some : goal.returns-clause-some
returns-clause-some c = shorter (returns-clause-read c)

pub returns-in_err-name-clause-takes : goal.returns-in_err-name-clause-takes
returns-in_err-name-clause-takes c = fails _ c.from_residual.ensures (begin RegisterWord some_register) c.in_err-name.ensures.takes

pub returns-in_err-sign-clause-takes : goal.returns-in_err-sign-clause-takes
returns-in_err-sign-clause-takes c =
    let named = begin RegisterWord some_register past c.in_ok-name.ensures.takes in
    fails _ c.from_residual-in_err-sign.ensures named c.in_err-sign.ensures.takes

pub returns-in_err-of-clause-takes : goal.returns-in_err-of-clause-takes
returns-in_err-of-clause-takes c =
    let colon = begin RegisterWord some_register past c.in_ok-name.ensures.takes past c.in_ok-sign.ensures.takes in
    fails _ c.from_residual-in_err-of.ensures colon c.in_err-of.ensures.takes

pub returns-in_err-sign-2-clause-takes : goal.returns-in_err-sign-2-clause-takes
returns-in_err-sign-2-clause-takes c =
    let colon = begin RegisterWord some_register past c.in_ok-name.ensures.takes past c.in_ok-sign.ensures.takes in
    fails _ c.from_residual-in_err-sign-2.ensures (colon past c.in_ok-of.ensures.takes) c.in_err-sign-2.ensures.takes

pub returns-in_err-first-clause-takes : goal.returns-in_err-first-clause-takes
returns-in_err-first-clause-takes c =
    let colon = begin RegisterWord some_register past c.in_ok-name.ensures.takes past c.in_ok-sign.ensures.takes in
    let equals = colon past c.in_ok-of.ensures.takes past c.in_ok-sign-2.ensures.takes in
    fails _ c.from_residual-in_err-first.ensures equals c.in_err-first.ensures.takes

pub returns-in_err-sign-3-clause-takes : goal.returns-in_err-sign-3-clause-takes
returns-in_err-sign-3-clause-takes c =
    let colon = begin RegisterWord some_register past c.in_ok-name.ensures.takes past c.in_ok-sign.ensures.takes in
    let first = colon past c.in_ok-of.ensures.takes past c.in_ok-sign-2.ensures.takes past c.in_ok-first.ensures.takes in
    fails_last _ c.from_residual-in_err-sign-3.ensures first c.in_err-sign-3.ensures.takes

pub returns-clause-takes : goal.returns-clause-takes
returns-clause-takes c =
    let colon = begin RegisterWord some_register past c.in_ok-name.ensures.takes past c.in_ok-sign.ensures.takes in
    let first = colon past c.in_ok-of.ensures.takes past c.in_ok-sign-2.ensures.takes past c.in_ok-first.ensures.takes in
    last_part _ first c.in_ok-sign-3.ensures.takes
