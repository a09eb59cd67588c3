use Rattle.std.proofs.Common.{ℕ, List, Option, Some, None, ◌≡◌, ◌∷◌, [], ◌∙◌, ap, subst, sym}
use Rattle.std.specs.Option.{IfNone, IfSome}
use Rattle.kw_base.specs.Texts.{StopsAt, is_blank}
use Rattle.kw_base.proofs.Words.{rest_stops}
use Rattle.clause_check.specs.Lines.{tokens_of}
use Rattle.clause_check.specs.inner.Tokens.{NotFirst}
use Rattle.clause_check.proofs.Cutting.{tokens_of-rest}
use Rattle.clause_check.proofs.token.after_letter.Goals as goal
use denote.Ref.{Bor}

found : (letter : ℕ) (bytes front : List ℕ) (o : Option (Bor (List ℕ))) → tokens_of bytes ≡ tokens_of front → IfSome o (λ rest. tokens_of front ≡ (letter ∷ []) ∷ tokens_of rest.now) → IfSome o (λ rest. tokens_of bytes ≡ (letter ∷ []) ∷ tokens_of rest.now)
found letter bytes front None same is = is
found letter bytes front (Some rest) same is = same ∙ is

absent : (letter : ℕ) (bytes front : List ℕ) (o : Option (Bor (List ℕ))) → tokens_of bytes ≡ tokens_of front → IfNone o (NotFirst letter (tokens_of front)) → IfNone o (NotFirst letter (tokens_of bytes))
absent letter bytes front None same is = subst (NotFirst letter) (sym same) is
absent letter bytes front (Some rest) same is = is

pub letter_here-requires : goal.letter_here-requires
letter_here-requires c = subst (StopsAt is_blank) (sym c.without_blanks.ensures.rest) (rest_stops is_blank c.args.bytes.now)

pub returns-clause-found : goal.returns-clause-found
returns-clause-found c = found _ _ c.without_blanks.result.now _ (tokens_of-rest c.args.bytes.now ∙ sym (ap tokens_of c.without_blanks.ensures.rest)) c.letter_here.ensures.found

pub returns-clause-absent : goal.returns-clause-absent
returns-clause-absent c = absent _ _ c.without_blanks.result.now _ (tokens_of-rest c.args.bytes.now ∙ sym (ap tokens_of c.without_blanks.ensures.rest)) c.letter_here.ensures.absent
