use Rattle.std.proofs.Common.{◌∷◌, ◌∙◌, ap, subst, sym}
use Rattle.std.proofs.lemmas.List.{nil_from_length}
use Rattle.kw_base.specs.Texts.{StopsAt, is_blank}
use Rattle.clause_check.specs.Lines.{tokens_of}
use Rattle.clause_check.specs.inner.Tokens.{NotFirst}
use Rattle.clause_check.proofs.TokensRead.{letter_found, longer_token, no_token, other_letter}
use Rattle.clause_check.proofs.token.letter_here.Goals as goal

pub returns-in_default-clause-absent : goal.returns-in_default-clause-absent
returns-in_default-clause-absent c = no_token c.args.letter c.args.token.now (nil_from_length _ c.in_default.ensures.cases)

pub returns-then-first-letter-clause-absent : goal.returns-then-first-letter-clause-absent
returns-then-first-letter-clause-absent c =
    let cut = c.in-Some.ensures.cases.0 in
    subst (λ (bytes : _). NotFirst c.args.letter (tokens_of bytes)) (sym cut)
    (other_letter c.args.letter c.in-Some.first.now c.in-Some.others.now (subst (StopsAt is_blank) cut c.requires) c.if-first-letter.true)

pub returns-then-begins_shown-clause-absent : goal.returns-then-begins_shown-clause-absent
returns-then-begins_shown-clause-absent c =
    let cut = c.in-Some.ensures.cases.0 ∙ ap (λ b. b ∷ c.in-Some.others.now) c.if-first-letter.false in
    subst (λ (bytes : _). NotFirst c.args.letter (tokens_of bytes)) (sym cut)
    (longer_token c.args.letter c.in-Some.others.now (subst (StopsAt is_blank) cut c.requires) (sym c.begins_shown.ensures ∙ c.if-begins_shown.true))

pub returns-clause-found : goal.returns-clause-found
returns-clause-found c =
    let cut = c.in-Some.ensures.cases.0 ∙ ap (λ b. b ∷ c.in-Some.others.now) c.if-first-letter.false in
    ap tokens_of cut ∙ letter_found c.args.letter c.in-Some.others.now (subst (StopsAt is_blank) cut c.requires) (sym c.begins_shown.ensures ∙ c.if-begins_shown.false)
