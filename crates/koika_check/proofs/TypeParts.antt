-- What a written type comes to, by what the type of its items does.
use Rattle.std.proofs.Common.{◌≡◌, ℕ, ap, sym, ◌∙◌}
use Rattle.koika_syntax.specs.declared.tree.Name.{Name}
use Rattle.koika_syntax.specs.declared.tree.Number.{Number}
use Rattle.koika_syntax.specs.declared.tree.TypeExpression.{TypeExpression, map-TypeExpression, out-TypeExpression, fold_out-TypeExpression, fold-roll-TypeExpression}
use Rattle.koika_syntax.specs.declared.tree.TypeExpression.TheOpen as opened
use Rattle.koika_syntax.specs.declared.tree.TypeExpression.TheVariants as variants
use Rattle.koika_syntax.specs.declared.tree.TypeExpression.TheViews as views
use Rattle.koika_syntax.specs.declared.tree.Width.{Width}
use Rattle.koika_check.specs.Outcomes.{CheckResult, ◌>>=◌}
use Rattle.koika_check.specs.Types.{array_type, named_type, type_of, type_step}
use Rattle.koika_check.specs.declared.checked.Checked.{Checked}
use Rattle.koika_check.specs.declared.typed.ValueType.{ValueType}

-- a type by its outermost construct
pub type-parts : (d : Checked) (t : TypeExpression) → type_of d t ≡ type_step d (map-TypeExpression TypeExpression (CheckResult ValueType) (type_of d) (out-TypeExpression t))
unfolding type_of
type-parts d t = fold_out-TypeExpression (CheckResult ValueType) (type_step d) t

pub type-Bits : (d : Checked) (width : Width) → type_of d (variants.Bits width) ≡ type_step d (opened.Bits width)
unfolding type_of
type-Bits d width = ap (type_of d) (sym (variants.rolls-Bits width)) ∙ fold-roll-TypeExpression (CheckResult ValueType) (type_step d) (opened.Bits width)

pub type-Named : (d : Checked) (n : Name) → type_of d (variants.Named n) ≡ named_type d n
unfolding type_of
type-Named d n = ap (type_of d) (sym (variants.rolls-Named n)) ∙ fold-roll-TypeExpression (CheckResult ValueType) (type_step d) (opened.Named n)

pub type-Array : (d : Checked) (place : ℕ) (element : TypeExpression) (length : Number) → type_of d (views.Array place element length) ≡ (type_of d element >>= array_type d length.value place)
unfolding type_of
type-Array d place element length =
    ap (type_of d) (sym (views.rolls-Array place element length)) ∙ fold-roll-TypeExpression (CheckResult ValueType) (type_step d) (opened.Array place element length)
