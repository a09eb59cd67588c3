use Rattle.koika_lower.proofs.Bindings.{on_ok}
use Rattle.koika_lower.proofs.Chains.{chain-more}
use Rattle.koika_lower.proofs.joining.+chained.Goals as goal

pub returns-in_ok-left-in-Some : goal.returns-in_ok-left-in-Some
returns-in_ok-left-in-Some t c =
    on_ok c.formed.result
    (λ l is. chain-more c.args.operators.now c.in-Some.before.now c.in-Some.operator.now c.args.operands _ c.form_of.result c.in_ok-left-in-Some.left c.last_of-right.result l
    c.in-Some.ensures.cases.0 c.last_of-right.ensures c.form_of.ensures.value c.form_of.ensures.fits c.in_ok-left-in-Some.ensures is)
    c.formed.ensures
