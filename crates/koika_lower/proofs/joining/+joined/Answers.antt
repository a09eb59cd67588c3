use Rattle.koika_lower.proofs.Bindings.{on_ok}
use Rattle.koika_lower.proofs.Chains.{joined-more}
use Rattle.koika_lower.proofs.joining.+joined.Goals as goal

pub returns : goal.returns
returns t c =
    on_ok c.formed.result
    (λ l is. joined-more c.args.operands _ c.form_of.result c.in_ok-high.high c.last_of-low.result l c.last_of-low.ensures (λ n. let t = c.is_empty.ensures.1 n in cc (t, c.if-is_empty.false))
    c.form_of.ensures.value c.form_of.ensures.fits c.in_ok-high.ensures is)
    c.formed.ensures
