-- What private functions alone cite of this crate's `Constants`.
use Rattle.koika_syntax.specs.declared.tree.ConstantField.{ConstantField, fold-ConstantField}
use Rattle.koika_check.specs.Outcomes.{CheckResult}
use Rattle.koika_check.specs.declared.checked.Checked.{Checked}
use Rattle.koika_check.specs.Constants.{KnownField, ConstantMeaning, FieldMeaning, constant_step, constant_field_step}

unfoldable pub constant_field_of : ConstantField → Checked → CheckResult KnownField
constant_field_of = fold-ConstantField ConstantMeaning FieldMeaning constant_step constant_field_step
