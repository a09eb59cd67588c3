use Rattle.std.proofs.Common.{ap, sym, ◌∙◌}
use Rattle.btor2_model.specs.Rules.{is_state}
use Rattle.btor2_model.proofs.Selections.{ids-with, ids-without}
use Rattle.btor2_model.proofs.states.state_ids.Goals as goal
use Rattle.btor2_model.proofs.states.state_ids.Goals.{then-is_state+in_ok-push, else-is_state}

pub loop-line-preserved : goal.loop-line-preserved
loop-line-preserved c =
    let tells = sym (c.is_state.ensures ∙ ap is_state c.of.ensures) in
    elim c.if-is_state.branch [
      | then-is_state+in_ok-push w ↦
          ap (λ v. v.items) w.ids-is ∙ w.in_ok-push.ensures.items
          ∙ ids-with is_state c.args.lines.now c.loop-line.line-index c.line-item.result c.loop-line.ids.items c.loop-line-test.true c.line-item.is (tells ∙ w.if-is_state.true) c.loop-line.invariant
      | else-is_state w ↦
          ap (λ v. v.items) w.ids-is
          ∙ ids-without is_state c.args.lines.now c.loop-line.line-index c.line-item.result c.loop-line.ids.items c.loop-line-test.true c.line-item.is (tells ∙ w.if-is_state.false) c.loop-line.invariant
    ]
