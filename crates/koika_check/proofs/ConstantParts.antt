-- What a constant comes to, by what its parts come to.
use Rattle.std.proofs.Common.{◌≡◌, ℕ, List, Some, ap, sym, ◌∙◌}
use Rattle.kw_base.specs.declared.fault_number.TheConstants.{UNKNOWN_NAME}
use Rattle.koika_syntax.specs.declared.tree.Constant.{Constant, fold-roll-Constant}
use Rattle.koika_syntax.specs.declared.tree.Constant.TheOpen as opened
use Rattle.koika_syntax.specs.declared.tree.Constant.TheVariants as variants
use Rattle.koika_syntax.specs.declared.tree.Constant.TheViews as constant
use Rattle.koika_syntax.specs.declared.tree.ConstantField.{ConstantField, out-ConstantField, fold_out-ConstantField}
use Rattle.koika_syntax.specs.declared.tree.Literal.{Literal}
use Rattle.koika_syntax.specs.declared.tree.Name.{Name}
use Rattle.koika_types.specs.declared.value.Value.TheVariants as value
use Rattle.koika_check.specs.Composites.{member}
use Rattle.koika_check.specs.Constants.{array_known, struct_known, FieldMeaning, Known, KnownField, ConstantMeaning, constant_field_step, constant_of, constant_step, known_member}
use Rattle.koika_check.specs.inner.Constants.{constant_field_of}
use Rattle.koika_check.specs.Outcomes.{Gives, CheckResult, ◌>>=◌, found, in_turn, wrong}
use Rattle.koika_check.specs.Types.{bits, part}
use Rattle.koika_check.specs.declared.checked.Checked.{Checked}
use Rattle.koika_check.specs.Kinds.{number_named}
use Rattle.koika_check.specs.declared.things.Kind.TheVariants as kind
use Rattle.koika_check.proofs.Turns.{turn-map}

pub constant-Literal : (l : Literal) (d : Checked) → constant_of (variants.Literal l) d ≡ Gives (record { part = part (Some (bits l.bits.width)) l.place; value = value.Number l.bits })
unfolding constant_of constant_field_of
constant-Literal l d = ap (λ c. constant_of c d) (sym (variants.rolls-Literal l)) ∙ ap (λ m. m d) (fold-roll-Constant ConstantMeaning FieldMeaning constant_step constant_field_step (opened.Literal l))

pub constant-Member : (of m : Name) (d : Checked) → constant_of (variants.Member of m) d ≡ (member d of m >>= λ found. Gives (known_member of.place found))
unfolding constant_of constant_field_of
constant-Member of m d = ap (λ c. constant_of c d) (sym (variants.rolls-Member of m)) ∙ ap (λ m. m d) (fold-roll-Constant ConstantMeaning FieldMeaning constant_step constant_field_step (opened.Member of m))

pub constant-Struct : (of : Name) (fields : List ConstantField) (close : ℕ) (d : Checked) → constant_of (constant.Struct of fields close) d ≡
    (found (number_named kind.Struct d of.text) (wrong UNKNOWN_NAME of.place) >>= λ number. in_turn (λ f. constant_field_of f d) fields >>= struct_known d number of.place close)
unfolding constant_of constant_field_of
constant-Struct of fields close d =
    ap (λ c. constant_of c d) (sym (constant.rolls-Struct of fields close))
    ∙ ap (λ m. m d) (fold-roll-Constant ConstantMeaning FieldMeaning constant_step constant_field_step (opened.Struct of fields close))
    ∙ ap (λ (o : CheckResult (List KnownField)). found (number_named kind.Struct d of.text) (wrong UNKNOWN_NAME of.place) >>= λ number. o >>= struct_known d number of.place close) (turn-map (λ (m : FieldMeaning). m d) constant_field_of fields)

pub constant-Array : (place : ℕ) (elements : List Constant) (d : Checked) → constant_of (constant.Array place elements) d ≡ (in_turn (λ e. constant_of e d) elements >>= array_known d place)
unfolding constant_of constant_field_of
constant-Array place elements d =
    ap (λ c. constant_of c d) (sym (constant.rolls-Array place elements))
    ∙ ap (λ m. m d) (fold-roll-Constant ConstantMeaning FieldMeaning constant_step constant_field_step (opened.Array place elements))
    ∙ ap (λ (o : CheckResult (List Known)). o >>= array_known d place) (turn-map (λ (m : ConstantMeaning). m d) constant_of elements)

pub constant-field : (f : ConstantField) (d : Checked) → constant_field_of f d ≡ (constant_of (out-ConstantField f).value d >>= λ known. Gives (record { name = (out-ConstantField f).name; known = known }))
unfolding constant_of constant_field_of
constant-field f d = ap (λ m. m d) (fold_out-ConstantField ConstantMeaning FieldMeaning constant_step constant_field_step f)
