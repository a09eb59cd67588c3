use Rattle.koika_lower.proofs.Prefixes.{prefixed-more}
use Rattle.koika_lower.proofs.applying.+prefixed.Goals as goal

pub returns-in_ok-one-in-Some : goal.returns-in_ok-one-in-Some
returns-in_ok-one-in-Some t c =
    prefixed-more c.args.operators.now c.in-Some.inner.now c.in-Some.operator.now c.one_of.result c.args.operand c.in_ok-inner-in-Some.inner c.in_ok-one-in-Some.field-0
    c.in-Some.ensures.cases.0 c.one_of.ensures.value c.one_of.ensures.keeps c.in_ok-inner-in-Some.ensures c.in_ok-one-in-Some.ensures
