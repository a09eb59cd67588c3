use Rattle.std.proofs.Common.{◌<◌, ◌≡◌, Some, ap, arith, length, map, subst, sym, ◌∙◌}
use Rattle.std.proofs.lemmas.List.{length-map}
use Rattle.koika_check.specs.inner.Checking.{IsType}
use Rattle.koika_check.specs.Composites.{field_named, fields_of, type_at}
use Rattle.koika_check.specs.declared.checked.CheckedField.{CheckedField}
use Rattle.koika_check.proofs.PartTypes.{field-is, fields-at, fields-long}
use Rattle.koika_check.proofs.Positions.{number_of-within}
use Rattle.koika_check.proofs.checker.Checker.type_of_field.Goals as goal

pub returns-in-Some : goal.returns-in-Some
returns-in-Some c =
    let fields = fields_of c.args.self.now.design c.args.number in
    let shapes = c.index.result.now in
    let are = fields-at c.args.self.now c.requires.checker c.args.number shapes c.requires.declared c.index.ensures in
    let found : field_named fields c.args.name.now.text ≡ Some c.in-Some.field = sym c.in_ok-field.ensures ∙ c.in-Some.is in
    let within : c.in-Some.field < length fields = omega (arith, (number_of-within (map (λ (f : CheckedField). f.name) fields) c.args.name.now.text c.in-Some.field found).0, length-map fields (λ (f : CheckedField). f.name)) in
    let long : c.in-Some.field < length shapes = omega (arith, within, fields-long c.args.self.now shapes fields are) in (
      sym (field-is c.args.self.now shapes fields c.in-Some.field c.index-in-Some.result.now are within c.index-in-Some.ensures) ∙ sym (ap (type_at fields) found),
      subst (IsType c.args.self.now) (sym c.index-in-Some.ensures) (are.each c.in-Some.field c.index-in-Some.result.now long),
    )
