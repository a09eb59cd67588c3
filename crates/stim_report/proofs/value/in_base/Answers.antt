use Rattle.std.proofs.Common.{sym, ap, ◌∙◌}
use Rattle.stim_report.specs.Assignments.{numeral}
use Rattle.stim_report.proofs.Digits.{hexadecimal-length, value_written-decimal, value_written-hexadecimal}
use Rattle.stim_report.proofs.value.in_base.Goals as goal

pub split_at-requires : goal.split_at-requires
split_at-requires c = hexadecimal-length c.args.value.now (sym c.is_hexadecimal.ensures ∙ c.if-is_hexadecimal.true)

pub returns-then-is_hexadecimal-clause-number : goal.returns-then-is_hexadecimal-clause-number
returns-then-is_hexadecimal-clause-number c =
    value_written-hexadecimal c.args.value.now (sym c.is_hexadecimal.ensures ∙ c.if-is_hexadecimal.true) ∙ ap (numeral 16) (sym c.split_at.ensures.back)

pub returns-clause-number : goal.returns-clause-number
returns-clause-number c = value_written-decimal c.args.value.now (sym c.is_hexadecimal.ensures ∙ c.if-is_hexadecimal.false)
