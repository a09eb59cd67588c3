use Rattle.std.proofs.Common.{ap, subst, sym, ◌∙◌}
use Rattle.kw_base.specs.Texts.{StopsAt, is_blank}
use Rattle.kw_base.proofs.Words.{rest_stops}
use Rattle.clause_check.specs.Lines.{tokens_of}
use Rattle.clause_check.specs.inner.Tokens.{GivesLiteral}
use Rattle.clause_check.proofs.Cutting.{tokens_of-rest}
use Rattle.clause_check.proofs.TokensRead.{closing_token}
use Rattle.clause_check.proofs.token.next_literal.Goals as goal

pub letter_here-requires : goal.letter_here-requires
letter_here-requires c = subst (StopsAt is_blank) (sym c.without_blanks-token.ensures.rest) (rest_stops is_blank c.args.bytes.now)

pub returns-in-Some-clause-gives : goal.returns-in-Some-clause-gives
returns-in-Some-clause-gives c = closing_token _ _ (tokens_of-rest c.args.bytes.now ∙ sym (ap tokens_of c.without_blanks-token.ensures.rest) ∙ c.in-Some.ensures.found)

pub literal_here-requires-clause-stops : goal.literal_here-requires-clause-stops
literal_here-requires-clause-stops c = subst (StopsAt is_blank) (sym c.without_blanks-token.ensures.rest) (rest_stops is_blank c.args.bytes.now)

pub returns-clause-gives : goal.returns-clause-gives
returns-clause-gives c = subst (GivesLiteral c.args.variables c.literal_here.result) (sym (tokens_of-rest c.args.bytes.now ∙ sym (ap tokens_of c.without_blanks-token.ensures.rest))) c.literal_here.ensures.gives
