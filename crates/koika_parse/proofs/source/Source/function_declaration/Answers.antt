use Rattle.koika_parse.proofs.DeclarationWords.{some_function, before_parenthesis}
use Rattle.koika_parse.proofs.Reading.{shorter}
use Rattle.koika_parse.specs.inner.Words.{FunctionWord}
use Rattle.koika_parse.proofs.Expected.{begin, fails, fails_before, fails_last, last_part, step}
use Rattle.koika_parse.proofs.Steps.{◌past◌, ◌then◌}
use Rattle.koika_parse.proofs.source.Source.function_declaration.Goals as goal

pub returns-clause-read : goal.returns-clause-read
returns-clause-read c =
    c.in_ok-name.ensures.read then c.in_ok-sign.ensures.read then c.in_ok-parameters.ensures.read then c.in_ok-sign-2.ensures.read
    then c.in_ok-sign-3.ensures.read then c.in_ok-result.ensures.read then c.in_ok-body.ensures.read

pub returns-clause-some : goal.returns-clause-some
returns-clause-some c = shorter (returns-clause-read c)

pub returns-in_err-name-clause-takes : goal.returns-in_err-name-clause-takes
returns-in_err-name-clause-takes c = fails _ c.from_residual.ensures (begin FunctionWord some_function) c.in_err-name.ensures.takes

pub returns-in_err-sign-clause-takes : goal.returns-in_err-sign-clause-takes
returns-in_err-sign-clause-takes c =
    let named = begin FunctionWord some_function past c.in_ok-name.ensures.takes in
    fails _ c.from_residual-in_err-sign.ensures named c.in_err-sign.ensures.takes

pub returns-in_err-parameters-clause-takes : goal.returns-in_err-parameters-clause-takes
returns-in_err-parameters-clause-takes c =
    let opened = begin FunctionWord some_function past c.in_ok-name.ensures.takes past c.in_ok-sign.ensures.takes in
    fails_before _ c.from_residual-in_err-parameters.ensures opened c.in_err-parameters.ensures.takes before_parenthesis

pub returns-in_err-sign-2-clause-takes : goal.returns-in_err-sign-2-clause-takes
returns-in_err-sign-2-clause-takes c =
    let opened = begin FunctionWord some_function past c.in_ok-name.ensures.takes past c.in_ok-sign.ensures.takes in
    let parameters = step opened c.in_ok-parameters.ensures.takes before_parenthesis in
    fails _ c.from_residual-in_err-sign-2.ensures parameters c.in_err-sign-2.ensures.takes

pub returns-in_err-sign-3-clause-takes : goal.returns-in_err-sign-3-clause-takes
returns-in_err-sign-3-clause-takes c =
    let opened = begin FunctionWord some_function past c.in_ok-name.ensures.takes past c.in_ok-sign.ensures.takes in
    let closed = step opened c.in_ok-parameters.ensures.takes before_parenthesis past c.in_ok-sign-2.ensures.takes in
    fails _ c.from_residual-in_err-sign-3.ensures closed c.in_err-sign-3.ensures.takes

pub returns-in_err-result-clause-takes : goal.returns-in_err-result-clause-takes
returns-in_err-result-clause-takes c =
    let opened = begin FunctionWord some_function past c.in_ok-name.ensures.takes past c.in_ok-sign.ensures.takes in
    let closed = step opened c.in_ok-parameters.ensures.takes before_parenthesis past c.in_ok-sign-2.ensures.takes in
    fails _ c.from_residual-in_err-result.ensures (closed past c.in_ok-sign-3.ensures.takes) c.in_err-result.ensures.takes

pub returns-in_err-body-clause-takes : goal.returns-in_err-body-clause-takes
returns-in_err-body-clause-takes c =
    let opened = begin FunctionWord some_function past c.in_ok-name.ensures.takes past c.in_ok-sign.ensures.takes in
    let closed = step opened c.in_ok-parameters.ensures.takes before_parenthesis past c.in_ok-sign-2.ensures.takes in
    let result = closed past c.in_ok-sign-3.ensures.takes past c.in_ok-result.ensures.takes in
    fails_last _ c.from_residual-in_err-body.ensures result c.in_err-body.ensures.takes

pub returns-clause-takes : goal.returns-clause-takes
returns-clause-takes c =
    let opened = begin FunctionWord some_function past c.in_ok-name.ensures.takes past c.in_ok-sign.ensures.takes in
    let closed = step opened c.in_ok-parameters.ensures.takes before_parenthesis past c.in_ok-sign-2.ensures.takes in
    last_part _ (closed past c.in_ok-sign-3.ensures.takes past c.in_ok-result.ensures.takes) c.in_ok-body.ensures.takes
