use Rattle.clause_check.specs.Lines.{tokens_of}
use Rattle.clause_check.proofs.TokensRead.{plain_gives, plain_none}
use Rattle.clause_check.proofs.token.plain_literal.Goals as goal

pub returns-in-Number-clause-gives : goal.returns-in-Number-clause-gives
returns-in-Number-clause-gives c = plain_gives c.args.variables c.in-Number.number c.literal_of.result c.in-Number.rest.now (tokens_of c.args.token.now) c.in-Number.ensures.gives c.literal_of.ensures.literal

pub returns-in-Malformed-clause-gives : goal.returns-in-Malformed-clause-gives
returns-in-Malformed-clause-gives c = plain_none c.args.variables c.args.token.now c.requires.stops c.requires.plain c.in-Malformed.ensures.gives
