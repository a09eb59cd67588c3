use Rattle.std.proofs.Common.{◌≡◌, [], ◌∷◌, ◌++◌, ℕ, List, ◌∙◌, ap, sym, subst, append_assoc, rules, false, Result, Err}
use Rattle.std.proofs.lemmas.Result.{err_from_is_err_and}
use Rattle.kw_base.specs.declared.fault_number.TheConstants.{WRONG_WIDTH}
use Rattle.koika_syntax.specs.declared.tree.TypeExpression.{TypeExpression}
use Rattle.koika_syntax.specs.declared.tree.TypeExpression.TheVariants as variants
use Rattle.koika_syntax.specs.declared.tree.Width.{Width}
use Rattle.koika_check.specs.inner.Checking.{Stands, arrays_of}
use Rattle.koika_check.specs.Outcomes.{◌>>=◌, Fails, holds, where_all, wrong}
use Rattle.koika_check.specs.inner.Outcomes.{Stop, Tells}
use Rattle.koika_check.specs.inner.Shapes.{type_of_shape}
use Rattle.koika_check.specs.Types.{array_type, bits, is_width, type_of}
use Rattle.koika_check.specs.declared.checked.Checked.{Checked}
use Rattle.koika_check.specs.declared.checker.Checker.{Checker}
use Rattle.koika_check.specs.declared.typed.ValueType.{ValueType}
use Rattle.koika_check.specs.declared.types.Inner.{Inner}
use Rattle.koika_check.proofs.Checkers.{array-err, array-ok}
use Rattle.koika_check.proofs.Telling.{tells-err, tells-fault, tells-ok}
use Rattle.koika_check.proofs.TypeParts.{type-Array, type-Bits, type-Named}
use Rattle.koika_check.proofs.checker.Checker.+inner.Goals as goal

-- what is told of an inner type
abbrev Told : (new old : List ℕ) → Checker → Inner → ValueType → Type 0
Told new old checker inner of = (inner.base ≡ of.base) × (new ≡ old ++ of.lengths) × Stands checker inner.shape of

-- a type of bits that are too many, and an array of items that are no type
too_wide : (d : Checked) (written : TypeExpression) (width : Width) → written ≡ variants.Bits width → is_width width.number.value ≡ false → type_of d written ≡ Fails (wrong WRONG_WIDTH width.place)
too_wide d written width is wide = ap (type_of d) is ∙ type-Bits d width ∙ ap (λ b. where_all (holds b (wrong WRONG_WIDTH width.place) ∷ []) (bits width.number.value)) wide

element_err : {Y Z : Type 0} (is : Y → ValueType → Type 0) (is' : Z → ValueType → Type 0) (d : Checked) (whole element : TypeExpression) (l place : ℕ) (stop : Stop) (r : Result Z Stop) →
    type_of d whole ≡ (type_of d element >>= array_type d l place) → r ≡ Err stop → Tells is (type_of d element) (Err stop) → Tells is' (type_of d whole) r
element_err is is' d whole element l place stop r e re h =
    subst (λ x. Tells is' (type_of d whole) x) (sym re) (subst (λ o. Tells is' o (Err stop)) (sym e) (tells-err is is' (type_of d element) (array_type d l place) stop h))

pub returns-then-not-is_width-clause-tells : goal.returns-then-not-is_width-clause-tells
returns-then-not-is_width-clause-tells t c =
    tells-fault (Told c.args.lengths.now c.args.lengths.now c.args.self.now) (type_of c.args.self.now.design c.args.of.now) (wrong WRONG_WIDTH c.in-Bits.width.place) c.stop_at.result c.stop_at.ensures
    (too_wide c.args.self.now.design c.args.of.now c.in-Bits.width c.in-Bits.is (sym c.is_width.ensures ∙ c.if-not-is_width.true))

pub returns-else-not-is_width-clause-tells : goal.returns-else-not-is_width-clause-tells
returns-else-not-is_width-clause-tells t c =
    rw (ap (type_of c.args.self.now.design) c.in-Bits.is ∙ type-Bits c.args.self.now.design c.in-Bits.width) (search rules)

pub returns-in-Named-clause-tells : goal.returns-in-Named-clause-tells
returns-in-Named-clause-tells t c =
    rw (ap (type_of c.args.self.now.design) c.in-Named.is ∙ type-Named c.args.self.now.design c.in-Named.name) (search rules)

pub returns-in_err-inner-in-Array-clause-tells : goal.returns-in_err-inner-in-Array-clause-tells
returns-in_err-inner-in-Array-clause-tells t c =
    let d = c.args.self.now.design in
    let p = err_from_is_err_and c.from_residual-in_err-inner-in-Array.result c.from_residual-in_err-inner-in-Array.ensures.1 in
    element_err (Told c.inner.new.lengths c.push.new.self c.inner.new.self) _ d c.args.of.now c.get.result.now c.in-Array.length.value c.in-Array.place _ _
    (ap (type_of d) c.in-Array.is ∙ type-Array d c.in-Array.place c.in-Array.element c.in-Array.length ∙ ap (λ e. type_of d e >>= array_type d c.in-Array.length.value c.in-Array.place) (sym c.get.ensures)) (p.1 ∙ ap Err p.2) c.in_err-inner-in-Array.ensures.tells

pub returns-in_err-shape-in-Array-clause-tells : goal.returns-in_err-shape-in-Array-clause-tells
returns-in_err-shape-in-Array-clause-tells t c =
    let p = err_from_is_err_and c.from_residual-in_err-shape-in-Array.result c.from_residual-in_err-shape-in-Array.ensures.1 in
    let item = tells-ok (Told c.inner.new.lengths c.push.new.self c.inner.new.self) (type_of c.args.self.now.design c.get.result.now) c.in_ok-inner-in-Array.inner c.in_ok-inner-in-Array.ensures.tells in
    array-err (Stands c.array_type.new.self) _ c.args.self.now.design c.inner.new.self.design c.args.of.now c.get.result.now c.in-Array.length.value c.in-Array.place item.0 (type_of_shape (arrays_of c.inner.new.self) c.in_ok-inner-in-Array.inner.shape) _ _
    (ap (type_of c.args.self.now.design) c.in-Array.is ∙ type-Array c.args.self.now.design c.in-Array.place c.in-Array.element c.in-Array.length ∙ ap (λ e. type_of c.args.self.now.design e >>= array_type c.args.self.now.design c.in-Array.length.value c.in-Array.place) (sym c.get.ensures)) (p.1 ∙ ap Err p.2) c.in_ok-inner-in-Array.ensures.grows.design item.1 item.2.2.0 c.in_err-shape-in-Array.ensures.tells

pub returns-in_ok-shape-in-Array-clause-tells : goal.returns-in_ok-shape-in-Array-clause-tells
returns-in_ok-shape-in-Array-clause-tells t c =
    let item = tells-ok (Told c.inner.new.lengths c.push.new.self c.inner.new.self) (type_of c.args.self.now.design c.get.result.now) c.in_ok-inner-in-Array.inner c.in_ok-inner-in-Array.ensures.tells in
    array-ok (Stands c.array_type.new.self) _ c.args.self.now.design c.inner.new.self.design c.args.of.now c.get.result.now c.in-Array.length.value c.in-Array.place item.0 (type_of_shape (arrays_of c.inner.new.self) c.in_ok-inner-in-Array.inner.shape) c.in_ok-shape-in-Array.shape _
    (ap (type_of c.args.self.now.design) c.in-Array.is ∙ type-Array c.args.self.now.design c.in-Array.place c.in-Array.element c.in-Array.length ∙ ap (λ e. type_of c.args.self.now.design e >>= array_type c.args.self.now.design c.in-Array.length.value c.in-Array.place) (sym c.get.ensures)) c.in_ok-inner-in-Array.ensures.grows.design item.1 item.2.2.0
    (λ stands. (item.2.0, item.2.1 ∙ ap (λ ls. ls ++ item.0.lengths) c.in_ok-push-in-Array.ensures.ok ∙ append_assoc c.args.lengths.now (c.in-Array.length.value ∷ []) item.0.lengths, stands))
    c.in_ok-shape-in-Array.ensures.tells
