-- Operators between two operands as the core has them: one of its operators, after which all bits may be turned. All
-- of it serves private functions alone.
use Rattle.std.specs.Prelude.{◌≡◌, ℕ, ◌≤◌, List, if◌then◌else◌}
use Rattle.kw_bits.specs.BitVector.{BitVector}
use Rattle.kw_bits.specs.Operators as op
use Rattle.typed_core.specs.Evaluation.{◌>>=◌, apply_two, comes_to, evaluate}
use Rattle.typed_core.specs.Valid.{ActionHasWidth, Declarations, TwoHasWidth}
use Rattle.koika_check.specs.Types.{width_of}
use Rattle.koika_check.specs.declared.checked.Checked.{Checked}
use Rattle.koika_check.specs.declared.typed.ValueType.{ValueType}
use Rattle.koika_lower.specs.inner.Actions.{ComesTo}
use Rattle.koika_lower.specs.declared.forms.Form.{Form}
use Rattle.koika_lower.specs.declared.lowered.Lowered.{Lowered}

-- the form's value on two operands
abbrev pub form_value : Form → BitVector → BitVector → BitVector
form_value form x y = if form.is_turned then op.not (apply_two form.operator x y) else apply_two form.operator x y

-- operands of types between which the operator may stand have the widths that the form wants, and so has its result
abbrev pub FormFits : (operates : ValueType → ValueType → ValueType → Type 0) → Form → Type 0
FormFits operates form = (d : Checked) (left right of : ValueType) → operates left right of → TwoHasWidth form.operator (width_of d left) (width_of d right) (width_of d of)

-- the action evaluates to the form's value on its operands' values, the left operand first, and has its width
pub record IsFormed (form : Form) (left right l : Lowered) : Type 0 where
  pub width : (width : ℕ) → TwoHasWidth form.operator left.width right.width width → width ≤ 128 → l.width ≡ width
  pub means : ComesTo l.action (λ env ports locals. evaluate env ports left.action locals >>= λ x. evaluate env ports right.action locals >>= λ y. comes_to (form_value form x y))
  pub typed : (d : Declarations) (widths : List ℕ) (width : ℕ) → ActionHasWidth d left.action widths left.width → ActionHasWidth d right.action widths right.width →
      1 ≤ left.width → 1 ≤ right.width → 1 ≤ width → TwoHasWidth form.operator left.width right.width width → ActionHasWidth d l.action widths width
