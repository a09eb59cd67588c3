-- Literals and numbers read one after another.
use Rattle.std.proofs.Common.{◌≡◌, ℕ, Bool, cond, List, [], ◌∷◌, ◌++◌, Option, Some, None, refl, sym, ap, ap₂, ◌∙◌, append_assoc, append-nil}
use Rattle.kw_base.specs.Texts.{StopsAt, is_blank}
use Rattle.clause_check.specs.Clauses.{Clause}
use Rattle.clause_check.specs.Lines.{tokens_of}
use Rattle.clause_check.specs.Steps.{◌>>=◌, at_end, literal_of, literals_in, number_of, numbers_in}
use Rattle.clause_check.specs.declared.literal.Literal.{Literal}
use Rattle.clause_check.specs.inner.Tokens.{Closes, IsLiteralAt, IsNumber, NoLiteral, NoNumber}
use Rattle.clause_check.proofs.Cutting.{tokens_of-first}

-- what is read after these literals
abbrev pub with_literals : Clause → Option (Clause × List (List ℕ)) → Option (Clause × List (List ℕ))
with_literals front None = None
with_literals front (Some found) = Some (front ++ found.0, found.1)

abbrev pub with_numbers : List ℕ → Option (List ℕ) → Option (List ℕ)
with_numbers front None = None
with_numbers front (Some numbers) = Some (front ++ numbers)

pub with_literals-nil : (o : Option (Clause × List (List ℕ))) → with_literals [] o ≡ o
with_literals-nil None = refl
with_literals-nil (Some found) = refl

pub with_numbers-nil : (o : Option (List ℕ)) → with_numbers [] o ≡ o
with_numbers-nil None = refl
with_numbers-nil (Some numbers) = refl

-- bytes that go on with one that isn't blank have a token
pub not_at_end : (bytes : List ℕ) → StopsAt is_blank bytes → ¬ (bytes ≡ []) → at_end (tokens_of bytes) ≡ None
not_at_end [] stops some = absurd (some refl)
not_at_end (b ∷ bytes) stops some = ap at_end (tokens_of-first b bytes stops)

-- a literal more
pub literals_more : (variables : ℕ) (front : Clause) (literal : Literal) (bytes rest : List ℕ) (whole : Option (Clause × List (List ℕ))) → IsLiteralAt variables (tokens_of bytes) literal rest
    → with_literals front (literals_in variables (tokens_of bytes)) ≡ whole → with_literals (front ++ literal ∷ []) (literals_in variables (tokens_of rest)) ≡ whole
literals_more variables front literal bytes rest whole is left = sym (ap (with_literals front) step ∙ by (literals_in variables (tokens_of rest))) ∙ left
  where
    step : literals_in variables (tokens_of bytes) ≡ (literals_in variables (tokens_of rest) >>= λ (found : Clause × List (List ℕ)). Some (literal ∷ found.0, found.1))
    step =
        ap (literals_in variables) is.3
        ∙ ap₂ (λ (t : Bool) (o : Option Literal). cond t (Some ([], tokens_of rest)) (o >>= λ (l : Literal). literals_in variables (tokens_of rest) >>= λ (found : Clause × List (List ℕ)). Some (l ∷ found.0, found.1))) is.1 is.2

    by : (o : Option (Clause × List (List ℕ))) → with_literals front (o >>= λ (found : Clause × List (List ℕ)). Some (literal ∷ found.0, found.1)) ≡ with_literals (front ++ literal ∷ []) o
    by None = refl
    by (Some found) = ap (λ (clause : Clause). Some (clause, found.1)) (sym (append_assoc front (literal ∷ []) found.0))

-- a closing token
pub literals_end : (variables : ℕ) (front : Clause) (bytes rest : List ℕ) (whole : Option (Clause × List (List ℕ))) → Closes (tokens_of bytes) rest
    → with_literals front (literals_in variables (tokens_of bytes)) ≡ whole → whole ≡ Some (front, tokens_of rest)
literals_end variables front bytes rest whole is left =
    sym left ∙ ap (with_literals front)
    (ap (literals_in variables) is.3
    ∙ ap (λ t. cond t (Some ([], tokens_of rest)) (literal_of variables is.0 >>= λ (l : Literal). literals_in variables (tokens_of rest) >>= λ (found : Clause × List (List ℕ)). Some (l ∷ found.0, found.1))) is.1)
    ∙ ap (λ (clause : Clause). Some (clause, tokens_of rest)) (append-nil front)

-- neither
pub literals_none : (variables : ℕ) (front : Clause) (tokens : List (List ℕ)) (whole : Option (Clause × List (List ℕ))) → NoLiteral variables tokens → with_literals front (literals_in variables tokens) ≡ whole → whole ≡ None
literals_none variables front [] whole none left = sym left
literals_none variables front (token ∷ tokens) whole none left =
    sym left ∙ ap (with_literals front)
    (ap₂ (λ (t : Bool) (o : Option Literal). cond t (Some ([], tokens)) (o >>= λ (l : Literal). literals_in variables tokens >>= λ (found : Clause × List (List ℕ)). Some (l ∷ found.0, found.1))) none.0 none.1)

-- the same of numbers
pub numbers_more : (front : List ℕ) (number : ℕ) (bytes rest : List ℕ) (whole : Option (List ℕ)) → IsNumber (tokens_of bytes) number rest
    → with_numbers front (numbers_in (tokens_of bytes)) ≡ whole → with_numbers (front ++ number ∷ []) (numbers_in (tokens_of rest)) ≡ whole
numbers_more front number bytes rest whole is left = sym (ap (with_numbers front) step ∙ by (numbers_in (tokens_of rest))) ∙ left
  where
    step : numbers_in (tokens_of bytes) ≡ (numbers_in (tokens_of rest) >>= λ (numbers : List ℕ). Some (number ∷ numbers))
    step =
        ap numbers_in is.3
        ∙ ap₂ (λ (t : Bool) (o : Option ℕ). cond t (at_end (tokens_of rest)) (o >>= λ (n : ℕ). numbers_in (tokens_of rest) >>= λ (numbers : List ℕ). Some (n ∷ numbers))) is.1 is.2

    by : (o : Option (List ℕ)) → with_numbers front (o >>= λ (numbers : List ℕ). Some (number ∷ numbers)) ≡ with_numbers (front ++ number ∷ []) o
    by None = refl
    by (Some numbers) = ap (λ (ns : List ℕ). Some ns) (sym (append_assoc front (number ∷ []) numbers))

closing : (bytes rest : List ℕ) → Closes (tokens_of bytes) rest → numbers_in (tokens_of bytes) ≡ at_end (tokens_of rest)
closing bytes rest is =
    ap numbers_in is.3
    ∙ ap (λ t. cond t (at_end (tokens_of rest)) (number_of is.0 >>= λ (n : ℕ). numbers_in (tokens_of rest) >>= λ (numbers : List ℕ). Some (n ∷ numbers))) is.1

pub numbers_end : (front bytes rest : List ℕ) (whole : Option (List ℕ)) → Closes (tokens_of bytes) rest → tokens_of rest ≡ [] → with_numbers front (numbers_in (tokens_of bytes)) ≡ whole → whole ≡ Some front
numbers_end front bytes rest whole is none left =
    sym left ∙ ap (with_numbers front) (closing bytes rest is ∙ ap at_end none) ∙ ap (λ (ns : List ℕ). Some ns) (append-nil front)

pub numbers_not_end : (front bytes rest : List ℕ) (whole : Option (List ℕ)) → Closes (tokens_of bytes) rest → at_end (tokens_of rest) ≡ None → with_numbers front (numbers_in (tokens_of bytes)) ≡ whole → whole ≡ None
numbers_not_end front bytes rest whole is more left = sym left ∙ ap (with_numbers front) (closing bytes rest is ∙ more)

pub numbers_none : (front : List ℕ) (tokens : List (List ℕ)) (whole : Option (List ℕ)) → NoNumber tokens → with_numbers front (numbers_in tokens) ≡ whole → whole ≡ None
numbers_none front [] whole none left = sym left
numbers_none front (token ∷ tokens) whole none left =
    sym left ∙ ap (with_numbers front)
    (ap₂ (λ (t : Bool) (o : Option ℕ). cond t (at_end tokens) (o >>= λ (n : ℕ). numbers_in tokens >>= λ (numbers : List ℕ). Some (n ∷ numbers))) none.0 none.1)
