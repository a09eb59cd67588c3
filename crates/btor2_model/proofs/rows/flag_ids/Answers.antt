use Rattle.std.proofs.Common.{ℕ, true, false, ◌++◌, ◌∷◌, [], ap, sym, ◌∙◌, append-nil}
use Rattle.btor2_model.specs.Scope.{id_at}
use Rattle.btor2_model.specs.inner.SlowRun.{is_flag}
use Rattle.btor2_model.proofs.Selections.{flags-next}
use Rattle.btor2_model.proofs.rows.flag_ids.Goals as goal
use Rattle.btor2_model.proofs.rows.flag_ids.Goals.{then-is_flag+in_ok-push, else-is_flag}

pub loop-line-preserved : goal.loop-line-preserved
loop-line-preserved c =
    let tells = sym (c.is_flag.ensures ∙ ap (λ s. is_flag s c.line-item.result) c.requires) in
    elim c.if-is_flag.branch [
      | then-is_flag+in_ok-push w ↦
          ap (λ v. v.items) w.ids-is ∙ w.in_ok-push.ensures.items ∙ ap (λ (id : ℕ). c.loop-line.ids.items ++ id ∷ []) (w.id_at.ensures ∙ ap (λ given. id_at given 0) w.as_slice.ensures)
          ∙ flags-next c.args.lines.now c.loop-line.line-index c.line-item.result true c.loop-line.ids.items c.loop-line-test.true c.line-item.is (tells ∙ w.if-is_flag.true) c.loop-line.invariant
      | else-is_flag w ↦ ap (λ v. v.items) w.ids-is ∙ sym (append-nil c.loop-line.ids.items) ∙ flags-next c.args.lines.now c.loop-line.line-index c.line-item.result false c.loop-line.ids.items c.loop-line-test.true c.line-item.is (tells ∙ w.if-is_flag.false) c.loop-line.invariant
    ]
