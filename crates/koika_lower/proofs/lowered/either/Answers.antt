use Rattle.std.proofs.Common.{sym, subst, ap, ap₂, ◌∙◌}
use Rattle.typed_core.specs.Evaluation.{◌>>=◌, choose, evaluate}
use Rattle.typed_core.specs.Valid.{ActionHasWidth}
use Rattle.typed_core.specs.declared.action.Action.{Action}
use Rattle.koika_lower.proofs.lowered.either.Goals as goal

pub returns : goal.returns
returns c =
    let vc = c.in_ok-condition.ensures.ok in
    let va = c.in_ok-first.ensures.ok in
    let vb = c.in_ok-new.ensures.ok in
    record {
      means = λ env ports locals.
          ap (λ (a : Action). evaluate env ports a locals >>= λ x. choose x (evaluate env ports c.in_ok-first.first.value locals) (evaluate env ports c.in_ok-new.field-0.value locals)) vc ∙
          ap₂ (λ (a b : Action). evaluate env ports c.args.condition locals >>= λ x. choose x (evaluate env ports a locals) (evaluate env ports b locals)) va vb;
      typed = λ d widths width hc ha hb. (
        subst (λ (a : Action). ActionHasWidth d a widths 1) (sym vc) hc,
        subst (λ (a : Action). ActionHasWidth d a widths width) (sym va) ha,
        subst (λ (a : Action). ActionHasWidth d a widths width) (sym vb) hb,
      );
    }
