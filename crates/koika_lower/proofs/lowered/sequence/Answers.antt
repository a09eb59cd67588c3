use Rattle.std.proofs.Common.{sym, subst, ap₂}
use Rattle.typed_core.specs.Evaluation.{◌>>=◌, evaluate}
use Rattle.typed_core.specs.Valid.{ActionHasWidth}
use Rattle.typed_core.specs.declared.action.Action.{Action}
use Rattle.koika_lower.proofs.lowered.sequence.Goals as goal

pub returns : goal.returns
returns c =
    let va = c.in_ok-first.ensures.ok in
    let vb = c.in_ok-new.ensures.ok in
    record {
      means = λ env ports locals. ap₂ (λ (a b : Action). evaluate env ports a locals >>= λ _. evaluate env ports b locals) va vb;
      typed = λ d widths dropped width ha hb.
          (dropped, subst (λ (a : Action). ActionHasWidth d a widths dropped) (sym va) ha, subst (λ (a : Action). ActionHasWidth d a widths width) (sym vb) hb);
    }
