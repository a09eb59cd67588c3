use Rattle.std.proofs.Common.{◌≡◌, true, rules, sym, ◌∙◌}
use Rattle.std.specs.Prelude.{◌↔◌}
use Rattle.std.specs.Cmp.Lexicographic.{pointwise_decides}
use Rattle.typed_core.specs.contracts.access.EventPartialEq.TheImpl as event_like
use Rattle.typed_core.specs.declared.access.Event.{Event}
use Rattle.attempt_log.proofs.retrace.are_same.Goals as goal

event-same : (x y : Event) → ((event_like.ghosts).eq x y ≡ true) ↔ (x ≡ y)
event-same x y = search rules

pub returns : goal.returns
returns c =
    let answers = pointwise_decides event-same c.args.events.now c.args.others.now in
    (λ t. answers.0 (sym c.eq.ensures ∙ t), λ h. c.eq.ensures ∙ answers.1 h)
