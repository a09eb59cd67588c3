use Rattle.koika_parse.proofs.DeclarationWords.{some_enum}
use Rattle.koika_parse.specs.inner.Words.{EnumWord}
use Rattle.koika_parse.proofs.Reading.{shorter}
use Rattle.koika_parse.proofs.Expected.{step, last_part, fails, fails_before, fails_last, begin}
use Rattle.koika_parse.proofs.Words.{before_brace}
use Rattle.koika_parse.proofs.Steps.{◌past◌, ◌then◌}
use Rattle.koika_parse.proofs.source.Source.enum_declaration.Goals as goal

pub returns-clause-read : goal.returns-clause-read
returns-clause-read c =
    c.in_ok-name.ensures.read then c.in_ok-sign.ensures.read then c.in_ok-width.ensures.read then c.in_ok-sign-2.ensures.read
    then c.in_ok-members.ensures.read then c.in_ok-sign-3.ensures.read

pub returns-clause-some : goal.returns-clause-some
returns-clause-some c = shorter (returns-clause-read c)

pub returns-in_err-name-clause-takes : goal.returns-in_err-name-clause-takes
returns-in_err-name-clause-takes c = fails _ c.from_residual.ensures (begin EnumWord some_enum) c.in_err-name.ensures.takes

pub returns-in_err-sign-clause-takes : goal.returns-in_err-sign-clause-takes
returns-in_err-sign-clause-takes c =
    fails _ c.from_residual-in_err-sign.ensures (begin EnumWord some_enum past c.in_ok-name.ensures.takes) c.in_err-sign.ensures.takes

pub returns-in_err-width-clause-takes : goal.returns-in_err-width-clause-takes
returns-in_err-width-clause-takes c =
    let colon = begin EnumWord some_enum past c.in_ok-name.ensures.takes past c.in_ok-sign.ensures.takes in
    fails _ c.from_residual-in_err-width.ensures colon c.in_err-width.ensures.takes

pub returns-in_err-sign-2-clause-takes : goal.returns-in_err-sign-2-clause-takes
returns-in_err-sign-2-clause-takes c =
    let colon = begin EnumWord some_enum past c.in_ok-name.ensures.takes past c.in_ok-sign.ensures.takes in
    fails _ c.from_residual-in_err-sign-2.ensures (colon past c.in_ok-width.ensures.takes) c.in_err-sign-2.ensures.takes

pub returns-in_err-members-clause-takes : goal.returns-in_err-members-clause-takes
returns-in_err-members-clause-takes c =
    let colon = begin EnumWord some_enum past c.in_ok-name.ensures.takes past c.in_ok-sign.ensures.takes in
    let brace = colon past c.in_ok-width.ensures.takes past c.in_ok-sign-2.ensures.takes in
    fails_before _ c.from_residual-in_err-members.ensures brace c.in_err-members.ensures.takes before_brace

pub returns-in_err-sign-3-clause-takes : goal.returns-in_err-sign-3-clause-takes
returns-in_err-sign-3-clause-takes c =
    let colon = begin EnumWord some_enum past c.in_ok-name.ensures.takes past c.in_ok-sign.ensures.takes in
    let brace = colon past c.in_ok-width.ensures.takes past c.in_ok-sign-2.ensures.takes in
    let members = step brace c.in_ok-members.ensures.takes before_brace in
    fails_last _ c.from_residual-in_err-sign-3.ensures members c.in_err-sign-3.ensures.takes

pub returns-clause-takes : goal.returns-clause-takes
returns-clause-takes c =
    let colon = begin EnumWord some_enum past c.in_ok-name.ensures.takes past c.in_ok-sign.ensures.takes in
    let brace = colon past c.in_ok-width.ensures.takes past c.in_ok-sign-2.ensures.takes in
    last_part _ (step brace c.in_ok-members.ensures.takes before_brace) c.in_ok-sign-3.ensures.takes
