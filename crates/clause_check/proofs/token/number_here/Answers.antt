use Rattle.clause_check.proofs.TokensRead.{none_found, number_found, number_shortens, zero_found}
use Rattle.clause_check.proofs.token.number_here.Goals as goal

pub returns-in_default-clause-gives : goal.returns-in_default-clause-gives
returns-in_default-clause-gives c = none_found c.args.token.now c.requires.stops c.requires.open c.in_default.ensures.absent

pub returns-then-digits-eq0-clause-gives : goal.returns-then-digits-eq0-clause-gives
returns-then-digits-eq0-clause-gives c = zero_found c.args.token.now c.in-Some.digits.rest.now c.in-Some.digits.value c.requires.stops c.requires.open c.in-Some.ensures.found c.if-digits-eq0.true

pub returns-clause-gives : goal.returns-clause-gives
returns-clause-gives c = number_found c.args.token.now c.in-Some.digits.value c.in-Some.digits.rest.now c.requires.stops c.requires.open c.in-Some.ensures.found c.if-digits-eq0.false

pub returns-clause-shorter : goal.returns-clause-shorter
returns-clause-shorter c = number_shortens c.args.token.now c.in-Some.digits.value c.in-Some.digits.rest.now c.requires.stops c.in-Some.ensures.found c.if-digits-eq0.false
