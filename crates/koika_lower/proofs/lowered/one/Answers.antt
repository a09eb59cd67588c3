use Rattle.std.proofs.Common.{sym, subst, ap}
use Rattle.typed_core.specs.Evaluation.{◌>>=◌, apply_one, comes_to, evaluate}
use Rattle.typed_core.specs.Valid.{ActionHasWidth}
use Rattle.typed_core.specs.declared.action.Action.{Action}
use Rattle.koika_lower.proofs.lowered.one.Goals as goal

pub returns : goal.returns
returns c =
    let va = c.in_ok-new.ensures.ok in
    record {
      means = λ env ports locals. ap (λ (a : Action). evaluate env ports a locals >>= λ x. comes_to (apply_one c.args.operator x)) va;
      typed = λ d widths operand width ha some k. (operand, subst (λ (a : Action). ActionHasWidth d a widths operand) (sym va) ha, some, k);
    }
