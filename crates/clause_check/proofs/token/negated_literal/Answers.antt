use Rattle.std.proofs.Common.{true, ◌∷◌}
use Rattle.clause_check.specs.Steps.{literal_by}
use Rattle.clause_check.proofs.TokensRead.{negated_gives, negated_none, negated_shortens, negated_zero, shortens_by}
use Rattle.clause_check.proofs.token.negated_literal.Goals as goal

pub returns-in_default-clause-gives : goal.returns-in_default-clause-gives
returns-in_default-clause-gives c = negated_none c.args.variables c.args.token.now c.in_default.ensures.absent

pub returns-then-digits-eq0-clause-gives : goal.returns-then-digits-eq0-clause-gives
returns-then-digits-eq0-clause-gives c = negated_zero c.args.variables c.args.token.now c.in-Some.digits.value c.in-Some.digits.rest.now c.in-Some.ensures.found c.if-digits-eq0.true

pub returns-clause-gives : goal.returns-clause-gives
returns-clause-gives c = negated_gives c.args.variables c.args.token.now c.in-Some.digits.value c.in-Some.digits.rest.now c.literal_of.result c.in-Some.ensures.found c.if-digits-eq0.false c.literal_of.ensures.literal

pub returns-clause-shorter : goal.returns-clause-shorter
returns-clause-shorter c =
    shortens_by (literal_by c.args.variables true c.in-Some.digits.value) c.literal_of.result c.in-Some.digits.rest.now (45 ∷ c.args.token.now) c.literal_of.ensures.literal
    (negated_shortens c.args.token.now c.in-Some.digits.value c.in-Some.digits.rest.now c.in-Some.ensures.found c.if-digits-eq0.false)
