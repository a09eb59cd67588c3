use Rattle.koika_lower.proofs.Bindings.{on_ok}
use Rattle.koika_lower.proofs.Choices.{chosen-push}
use Rattle.koika_lower.proofs.choosing.+chosen_before.Goals as goal

pub returns-in_ok-action-in-Some : goal.returns-in_ok-action-in-Some
returns-in_ok-action-in-Some t c =
    on_ok c.chosen_before.result
    (λ l h. chosen-push c.args.conditions c.args.bodies _ _ c.in-Some.condition c.last_of-body.result c.args.behind l c.in_ok-action-in-Some.action
    c.in-Some.ensures.items c.last_of-body.ensures c.in_ok-action-in-Some.ensures h)
    c.chosen_before.ensures
