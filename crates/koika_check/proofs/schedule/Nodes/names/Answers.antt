use Rattle.std.proofs.Common.{[], ◌∷◌, ◌++◌, refl}
use Rattle.std.proofs.lemmas.Result.{err_from_is_err_and}
use Rattle.koika_check.specs.Outcomes.{Gives}
use Rattle.koika_check.specs.Schedule.{longer, tried}
use Rattle.koika_check.proofs.Answering.{ends, step-err}
use Rattle.koika_check.proofs.schedule.Nodes.names.Goals as goal

pub returns-in_err-tried-clause-tells : goal.returns-in_err-tried-clause-tells
returns-in_err-tried-clause-tells c =
    let p = err_from_is_err_and c.from_residual.result c.from_residual.ensures.1 in
    let d = c.args.checker.now.design in
    let path = c.loop-name.self.path.rules in
    rw (p.1, p.2)
    (step-err (longer d) c.args.names.now c.loop-name.name-index c.name-item.result path c.args.self.now.path.rules _ c.loop-name-test.true c.name-item.is c.loop-name.invariant.3
    (ends (longer d c.name-item.result path) (tried d path c.name-item.result) (λ rule. Gives (path ++ rule ∷ [])) _ refl c.in_err-tried.ensures.tells))
