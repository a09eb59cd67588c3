use Rattle.std.proofs.Common.{sym, ap, ◌∙◌}
use Rattle.kw_bits.specs.Operators as op
use Rattle.net_simplify.proofs.Implying.{flag_clear, flag_set}
use Rattle.net_simplify.proofs.form.bit.Goals as goal

pub returns-then-value : goal.returns-then-value
returns-then-value c = c.not.ensures ∙ ap op.not c.zero-clear.ensures ∙ flag_set ∙ ap op.flag (sym c.if-value.true)

pub returns-else-value : goal.returns-else-value
returns-else-value c = c.zero-clear.ensures ∙ flag_clear ∙ ap op.flag (sym c.if-value.false)
