use Rattle.std.proofs.Common.{refl, sym, subst, ap}
use Rattle.typed_core.specs.Evaluation.{◌>>=◌, comes_to, evaluate}
use Rattle.typed_core.specs.Valid.{ActionHasWidth}
use Rattle.typed_core.specs.declared.action.Action.{Action}
use Rattle.kw_bits.specs.Operators as op
use Rattle.koika_lower.proofs.lowered.slice.Goals as goal

pub returns : goal.returns
returns c =
    let va = c.in_ok-new.ensures.ok in
    record {
      means = λ env ports locals. ap (λ (a : Action). evaluate env ports a locals >>= λ x. comes_to (op.slice x c.args.upper c.args.lower)) va;
      typed = λ d widths operand ha i j. (operand, subst (λ (a : Action). ActionHasWidth d a widths operand) (sym va) ha, i, j, refl);
    }
