use Rattle.std.proofs.Common.{ap, sym, ◌∙◌}
use Rattle.btor2_model.specs.Rules.{is_input}
use Rattle.btor2_model.proofs.Selections.{ids-with, ids-without}
use Rattle.btor2_model.proofs.line_values.input_ids.Goals as goal
use Rattle.btor2_model.proofs.line_values.input_ids.Goals.{then-is_input+in_ok-push, else-is_input}

pub loop-line-preserved : goal.loop-line-preserved
loop-line-preserved c =
    let tells = sym (c.is_input.ensures ∙ ap is_input c.of.ensures) in
    elim c.if-is_input.branch [
      | then-is_input+in_ok-push w ↦
          ap (λ v. v.items) w.ids-is ∙ w.in_ok-push.ensures.items
          ∙ ids-with is_input c.args.lines.now c.loop-line.line-index c.line-item.result c.loop-line.ids.items c.loop-line-test.true c.line-item.is (tells ∙ w.if-is_input.true) c.loop-line.invariant
      | else-is_input w ↦
          ap (λ v. v.items) w.ids-is
          ∙ ids-without is_input c.args.lines.now c.loop-line.line-index c.line-item.result c.loop-line.ids.items c.loop-line-test.true c.line-item.is (tells ∙ w.if-is_input.false) c.loop-line.invariant
    ]
