use Rattle.std.proofs.Common.{refl, ap, sym, subst, ◌∙◌}
use Rattle.kw_bits.specs.Operators as op
use Rattle.koika_check.specs.Meaning.{extension_value}
use Rattle.koika_syntax.specs.declared.operator.Extension.{Extension}
use Rattle.typed_core.specs.Evaluation.{◌>>=◌, comes_to, evaluate}
use Rattle.typed_core.specs.Valid.{ActionHasWidth}
use Rattle.typed_core.specs.declared.action.Action.{Action}
use Rattle.koika_lower.proofs.applying.extended.Goals as goal

pub returns-in-Zero : goal.returns-in-Zero
returns-in-Zero c =
    let va = c.in_ok-a.ensures.ok in
    record {
      same = λ e. absurd (c.if-operand-width.false e);
      width = refl;
      means = λ other env ports locals.
          ap (λ (a : Action). evaluate env ports a locals >>= λ x. comes_to (op.zext x c.args.width)) va ∙
          ap (λ (e : Extension). evaluate env ports c.args.operand.action locals >>= λ x. comes_to (extension_value e x c.args.width)) (sym c.in-Zero.is);
      typed = λ other d widths from h some le few. (from, subst (λ (a : Action). ActionHasWidth d a widths from) (sym va) h, some, le, few, refl);
    }

pub returns-in-Sign : goal.returns-in-Sign
returns-in-Sign c =
    let va = c.in_ok-a.ensures.ok in
    record {
      same = λ e. absurd (c.if-operand-width.false e);
      width = refl;
      means = λ other env ports locals.
          ap (λ (a : Action). evaluate env ports a locals >>= λ x. comes_to (op.sext x c.args.width)) va ∙
          ap (λ (e : Extension). evaluate env ports c.args.operand.action locals >>= λ x. comes_to (extension_value e x c.args.width)) (sym c.in-Sign.is);
      typed = λ other d widths from h some le few. (from, subst (λ (a : Action). ActionHasWidth d a widths from) (sym va) h, some, le, few, refl);
    }
