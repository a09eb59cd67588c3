use Rattle.std.proofs.Common.{List, ◌∙◌, ap, sym}
use Rattle.std.proofs.lemmas.Result.{err_from_is_err_and}
use Rattle.kw_bits.specs.declared.host.HostSpec.{HostSpec}
use Rattle.koika_check.specs.Declarations.{declare}
use Rattle.koika_check.specs.Outcomes.{Gives}
use Rattle.koika_check.proofs.Answering.{ends-same, step-err, step-ok}
use Rattle.koika_check.proofs.checker.Checker.declarations.Goals as goal

pub returns-in_err-declaration-clause-answers : goal.returns-in_err-declaration-clause-answers
returns-in_err-declaration-clause-answers c =
    let p = err_from_is_err_and c.from_residual.result c.from_residual.ensures.1 in
    let hosts = c.args.self.now.hosts in
    let one = c.declaration-item.result in
    let d = c.loop-declaration.self.design in
    rw (p.1, p.2)
    (step-err (declare hosts) c.args.all.now c.loop-declaration.declaration-index one d c.args.self.now.design _ c.loop-declaration-test.true c.declaration-item.is c.loop-declaration.invariant.rest
    (ends-same (declare hosts one d) (declare c.loop-declaration.self.hosts one d) _ (ap (λ (hs : List HostSpec). declare hs one d) (sym c.loop-declaration.invariant.hosts)) c.in_err-declaration.ensures.answers))

pub loop-declaration-preserved : goal.loop-declaration-preserved
loop-declaration-preserved c =
    let hosts = c.args.self.now.hosts in
    let one = c.declaration-item.result in
    let d = c.loop-declaration.self.design in
    let next = c.in_ok-declaration.ensures in
    let before = c.loop-declaration.invariant in
    record {
      settled = next.kept;
      hosts = next.hosts ∙ before.hosts;
      rest = step-ok (declare hosts) c.args.all.now c.loop-declaration.declaration-index one d c.declaration.new.self.design c.args.self.now.design c.loop-declaration-test.true c.declaration-item.is before.rest
          (ap (λ (hs : List HostSpec). declare hs one d) (sym before.hosts) ∙ next.answers.1 ∙ ap Gives (sym next.answers.2));
    }
