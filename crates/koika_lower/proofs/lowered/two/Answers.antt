use Rattle.std.proofs.Common.{sym, subst, ap₂}
use Rattle.typed_core.specs.Evaluation.{◌>>=◌, apply_two, comes_to, evaluate}
use Rattle.typed_core.specs.Valid.{ActionHasWidth}
use Rattle.typed_core.specs.declared.action.Action.{Action}
use Rattle.koika_lower.proofs.lowered.two.Goals as goal

pub returns : goal.returns
returns c =
    let va = c.in_ok-a.ensures.ok in
    let vb = c.in_ok-new.ensures.ok in
    record {
      means = λ env ports locals. ap₂ (λ (a b : Action). evaluate env ports a locals >>= λ x. evaluate env ports b locals >>= λ y. comes_to (apply_two c.args.operator x y)) va vb;
      typed = λ d widths left right width ha hb i j k.
          (left, right, subst (λ (a : Action). ActionHasWidth d a widths left) (sym va) ha, subst (λ (a : Action). ActionHasWidth d a widths right) (sym vb) hb, i, j, k);
    }
