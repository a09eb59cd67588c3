use Rattle.std.proofs.Common.{◌≡◌, refl, ◌∙◌, ap, sym, Bool, if◌then◌else◌}
use Rattle.kw_bits.specs.BitVector.{BitVector}
use Rattle.kw_bits.specs.Operators as op
use Rattle.typed_core.specs.Evaluation.{Evaluation, ◌>>=◌, apply_two, comes_to, evaluate}
use Rattle.typed_core.specs.declared.outcome.Stopped.{Stopped}
use Rattle.koika_lower.proofs.Orders.{bind-assoc, bind-behind}
use Rattle.koika_lower.proofs.forms.formed.Goals as goal

pub returns-in_ok-action-2 : goal.returns-in_ok-action-2
returns-in_ok-action-2 c = record {
  width = λ width h few. c.width_of-width.ensures width h few;
  means = λ env ports locals.
      let left = evaluate env ports c.args.left.action locals in
      let right = evaluate env ports c.args.right.action locals in
      let f : BitVector → BitVector → BitVector = apply_two c.args.form.operator in
      let turn : BitVector → Evaluation BitVector Stopped = λ z. comes_to (op.not z) in
      let turned : (x y : BitVector) → op.not (f x y) ≡ (if c.args.form.is_turned then op.not (f x y) else f x y) =
      λ x y. ap (λ (t : Bool). if t then op.not (f x y) else f x y) (sym c.if-form.true) in
      c.in_ok-action-2.ensures.means env ports locals ∙
      ap (λ (p : Evaluation BitVector Stopped). p >>= turn) (c.in_ok-action.ensures.means env ports locals) ∙
      (λ i events. bind-assoc left (λ x. right >>= λ y. comes_to (f x y)) turn events i) ∙
      (λ i events. bind-behind left (λ x. (right >>= λ y. comes_to (f x y)) >>= turn) (λ x. right >>= λ y. turn (f x y)) (λ x es. bind-assoc right (λ y. comes_to (f x y)) turn es) events i) ∙
      (λ i. left >>= λ x. right >>= λ y. comes_to (turned x y i));
  typed = λ d widths width ha hb i j k h. c.in_ok-action-2.ensures.typed d widths width width (c.in_ok-action.ensures.typed d widths c.args.left.width c.args.right.width width ha hb i j h) k refl;
}
