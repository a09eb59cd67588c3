use Rattle.koika_lower.proofs.Bindings.{bound-push, on_ok}
use Rattle.koika_lower.proofs.binding.+all_bound.Goals as goal

pub returns-in_ok-body-in-Some : goal.returns-in_ok-body-in-Some
returns-in_ok-body-in-Some t c =
    on_ok c.all_bound.result (λ a h. bound-push _ _ c.in-Some.last c.args.body c.in_ok-body-in-Some.body a c.in-Some.ensures.items c.in_ok-body-in-Some.ensures h) c.all_bound.ensures
