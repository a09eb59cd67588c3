use Rattle.std.proofs.Common.{ap, subst, sym, ◌∙◌}
use Rattle.std.proofs.lemmas.List.{nil_from_length}
use Rattle.kw_base.specs.Texts.{is_blank}
use Rattle.kw_base.proofs.Words.{words_of-nil}
use Rattle.clause_check.specs.Lines.{tokens_of}
use Rattle.clause_check.specs.inner.Tokens.{NoLiteral}
use Rattle.clause_check.proofs.token.literal_here.Goals as goal

pub returns-in_default-clause-gives : goal.returns-in_default-clause-gives
returns-in_default-clause-gives c = subst (NoLiteral c.args.variables) (sym (ap tokens_of (nil_from_length _ c.in_default.ensures.cases) ∙ (words_of-nil is_blank))) tt
