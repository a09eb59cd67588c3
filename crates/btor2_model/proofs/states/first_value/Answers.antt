use Rattle.std.proofs.Common.{subst, sym, ◌∙◌}
use Rattle.btor2_model.specs.Run.{width_in}
use Rattle.btor2_model.specs.SlowRun.{HasValue}
use Rattle.btor2_model.proofs.Lasting.{init-has-by}
use Rattle.btor2_model.proofs.states.first_value.Goals as goal

pub returns-in-Some-clause-has : goal.returns-in-Some-clause-has
returns-in-Some-clause-has c = λ fine forms filled some most.
    subst (λ o. HasValue o (width_in c.args.lines.now c.args.state)) (sym c.get.ensures)
    (init-has-by c.args.lines.now c.args.values.now c.args.state c.in-Some.id fine forms filled (sym c.init_of.ensures.id ∙ c.in-Some.is))
