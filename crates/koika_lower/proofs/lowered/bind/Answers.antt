use Rattle.std.proofs.Common.{◌∷◌, sym, subst, ap₂}
use Rattle.typed_core.specs.Evaluation.{◌>>=◌, evaluate}
use Rattle.typed_core.specs.Valid.{ActionHasWidth}
use Rattle.typed_core.specs.declared.action.Action.{Action}
use Rattle.koika_lower.proofs.lowered.bind.Goals as goal

pub returns : goal.returns
returns c =
    let va = c.in_ok-value.ensures.ok in
    let vb = c.in_ok-new.ensures.ok in
    record {
      means = λ env ports locals. ap₂ (λ (a b : Action). evaluate env ports a locals >>= λ x. evaluate env ports b (x ∷ locals)) va vb;
      typed = λ d widths bound width ha some hb.
          (bound, subst (λ (a : Action). ActionHasWidth d a widths bound) (sym va) ha, some, subst (λ (a : Action). ActionHasWidth d a (bound ∷ widths) width) (sym vb) hb);
    }
