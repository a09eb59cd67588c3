-- Prefix operators on an operand.
use Rattle.std.proofs.Common.{◌≡◌, ℕ, List, ◌∷◌, ap, sym, ◌∙◌}
use Rattle.kw_bits.specs.BitVector.{BitVector}
use Rattle.koika_syntax.specs.declared.operator.UnaryOperator.{UnaryOperator}
use Rattle.typed_core.specs.Evaluation.{Evaluation, ◌>>=◌, apply_one, comes_to, evaluate}
use Rattle.typed_core.specs.Valid.{OneHasWidth}
use Rattle.typed_core.specs.declared.action.Action.{Action}
use Rattle.typed_core.specs.declared.action.OneOp.{OneOp}
use Rattle.typed_core.specs.declared.outcome.Stopped.{Stopped}
use Rattle.koika_check.specs.Meaning.{prefix_value, prefixed}
use Rattle.koika_lower.specs.inner.Actions.{IsOne}
use Rattle.koika_lower.specs.inner.Applied.{IsPrefixed}
use Rattle.koika_lower.specs.declared.lowered.Lowered.{Lowered}
use Rattle.koika_lower.proofs.Orders.{bind-assoc}

pub prefixed-more : (operators inner : List UnaryOperator) (o : UnaryOperator) (core : OneOp) (operand l : Lowered) (a : Action) → operators ≡ o ∷ inner →
    ((x : BitVector) → apply_one core x ≡ prefix_value o x) → ((width : ℕ) → OneHasWidth core width width) → IsPrefixed inner operand l → IsOne core l.action a →
    IsPrefixed operators operand (record { action = a; width = l.width })
prefixed-more operators inner o core operand l a e value keeps h is = record {
  width = h.width;
  means = λ env ports locals.
      is.means env ports locals ∙
      ap (λ (p : Evaluation BitVector Stopped). p >>= λ z. comes_to (apply_one core z)) (h.means env ports locals) ∙
      (λ i events. bind-assoc (evaluate env ports operand.action locals) (λ x. comes_to (prefixed inner x)) (λ z. comes_to (apply_one core z)) events i) ∙
      (λ i. evaluate env ports operand.action locals >>= λ x. comes_to (value (prefixed inner x) i)) ∙
      (λ i. evaluate env ports operand.action locals >>= λ x. comes_to (prefixed (sym e i) x));
  typed = λ d widths width ha some. is.typed d widths width width (h.typed d widths width ha some) some (keeps width);
}
