use Rattle.koika_parse.proofs.DeclarationWords.{some_host}
use Rattle.koika_parse.specs.inner.Words.{HostWord}
use Rattle.koika_parse.proofs.Reading.{shorter}
use Rattle.koika_parse.proofs.Expected.{last_part, fails, fails_last, begin}
use Rattle.koika_parse.proofs.Steps.{◌past◌, ◌then◌}
use Rattle.koika_parse.proofs.source.Source.host_declaration.Goals as goal

pub returns-clause-read : goal.returns-clause-read
returns-clause-read c =
    c.in_ok-name.ensures.read then c.in_ok-sign.ensures.read then c.in_ok-input.ensures.read then c.in_ok-sign-2.ensures.read
    then c.in_ok-output.ensures.read then c.in_ok-sign-3.ensures.read

pub returns-clause-some : goal.returns-clause-some
returns-clause-some c = shorter (returns-clause-read c)

pub returns-in_err-name-clause-takes : goal.returns-in_err-name-clause-takes
returns-in_err-name-clause-takes c = fails _ c.from_residual.ensures (begin HostWord some_host) c.in_err-name.ensures.takes

pub returns-in_err-sign-clause-takes : goal.returns-in_err-sign-clause-takes
returns-in_err-sign-clause-takes c =
    fails _ c.from_residual-in_err-sign.ensures (begin HostWord some_host past c.in_ok-name.ensures.takes) c.in_err-sign.ensures.takes

pub returns-in_err-input-clause-takes : goal.returns-in_err-input-clause-takes
returns-in_err-input-clause-takes c =
    let colon = begin HostWord some_host past c.in_ok-name.ensures.takes past c.in_ok-sign.ensures.takes in
    fails _ c.from_residual-in_err-input.ensures colon c.in_err-input.ensures.takes

pub returns-in_err-sign-2-clause-takes : goal.returns-in_err-sign-2-clause-takes
returns-in_err-sign-2-clause-takes c =
    let colon = begin HostWord some_host past c.in_ok-name.ensures.takes past c.in_ok-sign.ensures.takes in
    fails _ c.from_residual-in_err-sign-2.ensures (colon past c.in_ok-input.ensures.takes) c.in_err-sign-2.ensures.takes

pub returns-in_err-output-clause-takes : goal.returns-in_err-output-clause-takes
returns-in_err-output-clause-takes c =
    let colon = begin HostWord some_host past c.in_ok-name.ensures.takes past c.in_ok-sign.ensures.takes in
    let arrow = colon past c.in_ok-input.ensures.takes past c.in_ok-sign-2.ensures.takes in
    fails _ c.from_residual-in_err-output.ensures arrow c.in_err-output.ensures.takes

pub returns-in_err-sign-3-clause-takes : goal.returns-in_err-sign-3-clause-takes
returns-in_err-sign-3-clause-takes c =
    let colon = begin HostWord some_host past c.in_ok-name.ensures.takes past c.in_ok-sign.ensures.takes in
    let output = colon past c.in_ok-input.ensures.takes past c.in_ok-sign-2.ensures.takes past c.in_ok-output.ensures.takes in
    fails_last _ c.from_residual-in_err-sign-3.ensures output c.in_err-sign-3.ensures.takes

pub returns-clause-takes : goal.returns-clause-takes
returns-clause-takes c =
    let colon = begin HostWord some_host past c.in_ok-name.ensures.takes past c.in_ok-sign.ensures.takes in
    let output = colon past c.in_ok-input.ensures.takes past c.in_ok-sign-2.ensures.takes past c.in_ok-output.ensures.takes in
    last_part _ output c.in_ok-sign-3.ensures.takes
