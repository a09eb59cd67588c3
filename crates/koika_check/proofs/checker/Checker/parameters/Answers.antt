use Rattle.std.proofs.Common.{[], ap, sym}
use Rattle.std.proofs.lemmas.Result.{err_from_is_err_and}
use Rattle.koika_check.specs.inner.Checking.{scope_of}
use Rattle.koika_check.specs.Declarations.{add_parameter}
use Rattle.koika_check.specs.Outcomes.{one_by_one}
use Rattle.koika_check.specs.declared.checked.Checked.{Checked}
use Rattle.koika_check.proofs.Answering.{ends-same, step-err}
use Rattle.koika_check.proofs.Growth.{grows-refl}
use Rattle.koika_check.proofs.Parameters.{no-parameters}
use Rattle.koika_check.proofs.checker.Checker.parameters.Goals as goal

pub loop-parameter-init : goal.loop-parameter-init
loop-parameter-init c = record {
  checker = c.requires.checker;
  grows = grows-refl c.args.self.now;
  bound = rw (c.new.ensures, c.new-2.ensures) (no-parameters c.args.self.now c.requires);
  rest = ap (one_by_one (add_parameter c.args.self.now.design) c.args.parameters.now) c.requires.unbound;
}

pub returns-in_err-parameter-clause-answers : goal.returns-in_err-parameter-clause-answers
returns-in_err-parameter-clause-answers c =
    let p = err_from_is_err_and c.from_residual.result c.from_residual.ensures.1 in
    let d = c.args.self.now.design in
    let f = c.parameter-item.result in
    let locals = (scope_of c.loop-parameter.self).locals in
    rw (p.1, p.2)
    (step-err (add_parameter d) c.args.parameters.now c.loop-parameter.parameter-index f locals [] _ c.loop-parameter-test.true c.parameter-item.is c.loop-parameter.invariant.rest
    (ends-same (add_parameter d f locals) (add_parameter c.loop-parameter.self.design f locals) _ (ap (λ (e : Checked). add_parameter e f locals) (sym c.loop-parameter.invariant.grows.design)) c.in_err-parameter.ensures.answers))
