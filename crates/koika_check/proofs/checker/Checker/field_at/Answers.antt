use Rattle.std.proofs.Common.{◌+◌, ap, ap₂, arith, get_or, length, map, subst, sym, ◌∙◌, ◌<◌, Some, refl}
use Rattle.koika_check.specs.inner.Checking.{AreTypes, arrays_of}
use Rattle.koika_check.specs.Composites.{fields_of}
use Rattle.koika_check.specs.Selections.{field_at, field_if}
use Rattle.koika_check.specs.inner.Shapes.{type_of_shape}
use Rattle.koika_check.specs.declared.checked.CheckedField.{CheckedField}
use Rattle.koika_check.specs.declared.shapes.Shape.TheVariants as shape
use Rattle.koika_check.specs.declared.typed.Selection.TheVariants as selection
use Rattle.koika_check.proofs.PartTypes.{field-is, field-widths, fields-at, fields-few, fields-long}
use Rattle.koika_check.proofs.Steps.{get_or-default}
use Rattle.koika_check.proofs.checker.Checker.field_at.Goals as goal

pub widths_behind-requires-clause-few : goal.widths_behind-requires-clause-few
widths_behind-requires-clause-few c =
    let are = subst (λ shapes. AreTypes c.args.self.now shapes (map (λ (f : CheckedField). f.of) (fields_of c.args.self.now.design c.args.of))) (sym c.as_slice-fields.ensures) (fields-at c.args.self.now c.requires.checker c.args.of c.index.result.now c.requires.whole.named c.index.ensures) in
    fields-few c.args.self.now c.requires.checker c.args.of (c.args.number + 1) c.as_slice-fields.result.now c.requires.whole are

pub returns : goal.returns
returns c =
    let fields = fields_of c.args.self.now.design c.args.of in
    let shapes = c.as_slice-fields.result.now in
    let are = subst (λ shapes. AreTypes c.args.self.now shapes (map (λ (f : CheckedField). f.of) fields)) (sym c.as_slice-fields.ensures) (fields-at c.args.self.now c.requires.checker c.args.of c.index.result.now c.requires.whole.named c.index.ensures) in
    let within : c.args.number < length shapes = omega (arith, c.requires.number, fields-long c.args.self.now shapes fields are) in
    let s = get_or shapes c.args.number (shape.Bits 0) in
    let of = type_of_shape (arrays_of c.args.self.now) s in (
      field_at c.args.self.now.design fields c.args.number of,
      ap (field_if c.args.self.now.design fields (Some c.args.number)) (field-is c.args.self.now shapes fields c.args.number s are c.requires.number (get_or-default shapes c.args.number (shape.Bits 0) s within)),
      (ap₂ (selection.Field c.args.number) (sym (field-widths c.args.self.now shapes fields (c.args.number + 1) are) ∙ sym c.widths_behind.ensures) (sym c.width.ensures), (refl, are.each c.args.number (shape.Bits 0) within)),
    )
