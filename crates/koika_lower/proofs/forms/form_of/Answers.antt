use Rattle.std.proofs.Common.{ap, sym, ◌∙◌}
use Rattle.koika_check.specs.Meaning.{binary_value}
use Rattle.koika_syntax.specs.declared.operator.BinaryOperator.{BinaryOperator}
use Rattle.koika_lower.specs.inner.Forms.{form_value}
use Rattle.koika_lower.specs.declared.forms.Form.{Form}
use Rattle.koika_lower.proofs.Comparisons.{not-ult, not-ulte}
use Rattle.koika_lower.proofs.forms.form_of.Goals as goal

pub returns-in-Greater-clause-value : goal.returns-in-Greater-clause-value
returns-in-Greater-clause-value c x y =
    ap (λ (f : Form). form_value f x y) c.turned-in-Greater.ensures ∙ not-ulte x y ∙ sym (ap (λ (o : BinaryOperator). binary_value o x y) c.in-Greater.is)

pub returns-in-GreaterOrEqual-clause-value : goal.returns-in-GreaterOrEqual-clause-value
returns-in-GreaterOrEqual-clause-value c x y =
    ap (λ (f : Form). form_value f x y) c.turned-in-GreaterOrEqual.ensures ∙ not-ult x y ∙ sym (ap (λ (o : BinaryOperator). binary_value o x y) c.in-GreaterOrEqual.is)
