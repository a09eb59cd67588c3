use Rattle.koika_parse.specs.inner.Words.{StructWord}
use Rattle.koika_parse.proofs.DeclarationWords.{some_struct}
use Rattle.koika_parse.proofs.Reading.{shorter}
use Rattle.koika_parse.proofs.Expected.{step, last_part, fails, fails_before, fails_last, begin}
use Rattle.koika_parse.proofs.Words.{before_brace}
use Rattle.koika_parse.proofs.Steps.{◌past◌, ◌then◌}
use Rattle.koika_parse.proofs.source.Source.struct_declaration.Goals as goal

pub returns-clause-read : goal.returns-clause-read
returns-clause-read c =
    c.in_ok-name.ensures.read then c.in_ok-sign.ensures.read then c.in_ok-fields.ensures.read then c.in_ok-sign-2.ensures.read

pub returns-clause-some : goal.returns-clause-some
returns-clause-some c = shorter (returns-clause-read c)

pub returns-in_err-name-clause-takes : goal.returns-in_err-name-clause-takes
returns-in_err-name-clause-takes c = fails _ c.from_residual.ensures (begin StructWord some_struct) c.in_err-name.ensures.takes

pub returns-in_err-sign-clause-takes : goal.returns-in_err-sign-clause-takes
returns-in_err-sign-clause-takes c =
    let named = begin StructWord some_struct past c.in_ok-name.ensures.takes in
    fails _ c.from_residual-in_err-sign.ensures named c.in_err-sign.ensures.takes

pub returns-in_err-fields-clause-takes : goal.returns-in_err-fields-clause-takes
returns-in_err-fields-clause-takes c =
    let brace = begin StructWord some_struct past c.in_ok-name.ensures.takes past c.in_ok-sign.ensures.takes in
    fails_before _ c.from_residual-in_err-fields.ensures brace c.in_err-fields.ensures.takes before_brace

pub returns-in_err-sign-2-clause-takes : goal.returns-in_err-sign-2-clause-takes
returns-in_err-sign-2-clause-takes c =
    let brace = begin StructWord some_struct past c.in_ok-name.ensures.takes past c.in_ok-sign.ensures.takes in
    let fields = step brace c.in_ok-fields.ensures.takes before_brace in
    fails_last _ c.from_residual-in_err-sign-2.ensures fields c.in_err-sign-2.ensures.takes

pub returns-clause-takes : goal.returns-clause-takes
returns-clause-takes c =
    let brace = begin StructWord some_struct past c.in_ok-name.ensures.takes past c.in_ok-sign.ensures.takes in
    last_part _ (step brace c.in_ok-fields.ensures.takes before_brace) c.in_ok-sign-2.ensures.takes
