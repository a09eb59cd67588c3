-- What the first token of bytes is, by its first bytes and its digits.
use Rattle.std.proofs.Common.{◌≡◌, ◌≢◌, ℕ, ◌<◌, Bool, true, false, cond, eqb, List, [], ◌∷◌, length, Option, Some, None, refl, sym, ap, ap₂, ◌∙◌, subst, arith, true≢false}
use Rattle.std.specs.Prelude.{bytes_eq, ◌&&◌}
use Rattle.std.proofs.lemmas.Bool.{eqb-true, not-false}
use Rattle.kw_base.specs.Texts.{StopsAt, is_blank}
use Rattle.kw_base.proofs.Words.{rest_shorter, words_of-nil}
use Rattle.clause_check.specs.Lines.{tokens_of}
use Rattle.clause_check.specs.Steps.{◌>>=◌, closes, literal_by, literal_of, number_of}
use Rattle.clause_check.specs.declared.literal.Literal.{Literal}
use Rattle.clause_check.specs.declared.token.LiteralToken.{LiteralToken}
use Rattle.clause_check.specs.declared.token.LiteralToken.TheVariants as literals
use Rattle.clause_check.specs.inner.Cuts.{after_token, not_blank, token_of}
use Rattle.clause_check.specs.inner.Tokens.{Closes, GivesLiteral, IsNumber, IsTokenOf, LiteralShortens, NoLiteral, NoNumber, NotFirst, NotMinus, begins_shown, digits_from}
use Rattle.clause_check.proofs.Cutting.{after_token-blank, after_token-first, token_of-blank, token_of-first, tokens_of-first}
use Rattle.clause_check.proofs.Digits.{none_read, number_read, zero_read}

-- ---- a letter

nothing_shown : (bytes : List ℕ) → begins_shown bytes ≡ false → (token_of bytes ≡ []) × (after_token bytes ≡ bytes)
nothing_shown [] ends = (refl, refl)
nothing_shown (b ∷ bytes) ends = let blank = not-false (is_blank b) ends in (token_of-blank b bytes blank, after_token-blank b bytes blank)

something_shown : (bytes : List ℕ) → begins_shown bytes ≡ true → (b : ℕ) × (rest : List ℕ) × (token_of bytes ≡ b ∷ rest)
something_shown [] ends = absurd (true≢false (sym ends))
something_shown (b ∷ bytes) ends = (b, token_of bytes, ap (λ t. cond t (b ∷ token_of bytes) []) ends)

-- a token of one letter
pub letter_found : (letter : ℕ) (others : List ℕ) → is_blank letter ≡ false → begins_shown others ≡ false → tokens_of (letter ∷ others) ≡ (letter ∷ []) ∷ tokens_of others
letter_found letter others shown ends =
    let parts = nothing_shown others ends in
    tokens_of-first letter others shown
    ∙ ap₂ (λ (token : List ℕ) (rest : List ℕ). token ∷ tokens_of rest) (token_of-first letter others shown ∙ ap (λ token. letter ∷ token) parts.0) (after_token-first letter others shown ∙ parts.1)

-- another first letter, and a longer token
not_first : (letter b : ℕ) (bytes token : List ℕ) → is_blank b ≡ false → token_of (b ∷ bytes) ≡ token → bytes_eq token (letter ∷ []) ≡ false → NotFirst letter (tokens_of (b ∷ bytes))
not_first letter b bytes token shown is differs =
    let cut : tokens_of (b ∷ bytes) ≡ token ∷ tokens_of (after_token (b ∷ bytes)) = tokens_of-first b bytes shown ∙ ap (λ t. t ∷ tokens_of (after_token (b ∷ bytes))) is in
    subst (NotFirst letter) (sym cut) differs

pub other_letter : (letter b : ℕ) (bytes : List ℕ) → is_blank b ≡ false → ¬ (b ≡ letter) → NotFirst letter (tokens_of (b ∷ bytes))
other_letter letter b bytes shown other = not_first letter b bytes (b ∷ token_of bytes) shown (token_of-first b bytes shown) (by (eqb b letter) refl)
  where
    by : (t : Bool) → eqb b letter ≡ t → (t && bytes_eq (token_of bytes) []) ≡ false
    by true same = absurd (other (eqb-true b letter same))
    by false differs = refl

pub longer_token : (letter : ℕ) (others : List ℕ) → is_blank letter ≡ false → begins_shown others ≡ true → NotFirst letter (tokens_of (letter ∷ others))
longer_token letter others shown ends =
    let more = something_shown others ends in
    not_first letter letter others (letter ∷ more.0 ∷ more.1) shown (token_of-first letter others shown ∙ ap (λ token. letter ∷ token) more.2) (by (eqb letter letter))
  where
    by : (t : Bool) → (t && false) ≡ false
    by true = refl
    by false = refl

pub no_token : (letter : ℕ) (bytes : List ℕ) → bytes ≡ [] → NotFirst letter (tokens_of bytes)
no_token letter bytes none = subst (NotFirst letter) (sym (ap tokens_of none ∙ (words_of-nil is_blank))) tt

-- the token that closes a list
pub closing_token : (tokens : List (List ℕ)) (rest : List ℕ) → tokens ≡ (48 ∷ []) ∷ tokens_of rest → Closes tokens rest
unfolding number_of
closing_token tokens rest cut = (48 ∷ [], refl, refl, cut)

-- ---- a number

-- bytes that begin with no blank are none, or begin with a token
record Begins (bytes : List ℕ) : Type 0 where
  token : List ℕ
  on : closes token ≡ false
  is : token_of bytes ≡ token
  cut : tokens_of bytes ≡ token ∷ tokens_of (after_token bytes)

begins : (b : ℕ) (bytes : List ℕ) → is_blank b ≡ false → NotFirst 48 (tokens_of (b ∷ bytes)) → Begins (b ∷ bytes)
begins b bytes shown other =
    let cut = tokens_of-first b bytes shown in
    record { token = token_of (b ∷ bytes); on = subst (NotFirst 48) cut other; is = refl; cut = cut }

nil_reads : (v : ℕ) (rest : List ℕ) → digits_from 0 [] ≡ Some (v, rest) → v ≡ 0
nil_reads v rest read = sym (ap value_in read)
  where
    value_in : Option (ℕ × List ℕ) → ℕ
    value_in None = 0
    value_in (Some p) = p.0

pub number_found : (bytes : List ℕ) (v : ℕ) (rest : List ℕ) → StopsAt is_blank bytes → NotFirst 48 (tokens_of bytes) → digits_from 0 bytes ≡ Some (v, rest) → v ≢ 0 → IsNumber (tokens_of bytes) v rest
number_found [] v rest stops other read some = absurd (some (nil_reads v rest read))
number_found (b ∷ bytes) v rest stops other read some =
    let first = begins b bytes stops other in
    let found = number_read (b ∷ bytes) v rest read some in
    (first.token, first.on, sym (ap number_of first.is) ∙ found.0, first.cut ∙ ap (λ r. first.token ∷ tokens_of r) found.1)

no_number : (b : ℕ) (bytes : List ℕ) → is_blank b ≡ false → NotFirst 48 (tokens_of (b ∷ bytes)) → number_of (token_of (b ∷ bytes)) ≡ None → NoNumber (tokens_of (b ∷ bytes))
no_number b bytes shown other none = let first = begins b bytes shown other in subst NoNumber (sym first.cut) (first.on, sym (ap number_of first.is) ∙ none)

pub zero_found : (bytes rest : List ℕ) (v : ℕ) → StopsAt is_blank bytes → NotFirst 48 (tokens_of bytes) → digits_from 0 bytes ≡ Some (v, rest) → v ≡ 0 → NoNumber (tokens_of bytes)
zero_found [] rest v stops other read zero_is = subst NoNumber (sym (words_of-nil is_blank)) tt
zero_found (b ∷ bytes) rest v stops other read zero_is = no_number b bytes stops other (zero_read (b ∷ bytes) rest (read ∙ ap (λ n. Some (n, rest)) zero_is))

pub none_found : (bytes : List ℕ) → StopsAt is_blank bytes → NotFirst 48 (tokens_of bytes) → digits_from 0 bytes ≡ None → NoNumber (tokens_of bytes)
none_found [] stops other read = subst NoNumber (sym (words_of-nil is_blank)) tt
none_found (b ∷ bytes) stops other read = no_number b bytes stops other (none_read (b ∷ bytes) read)

pub number_shortens : (bytes : List ℕ) (v : ℕ) (rest : List ℕ) → StopsAt is_blank bytes → digits_from 0 bytes ≡ Some (v, rest) → v ≢ 0 → length rest < length bytes
number_shortens [] v rest stops read some = absurd (some (nil_reads v rest read))
number_shortens (b ∷ bytes) v rest stops read some =
    let after : after_token bytes ≡ rest = sym (after_token-first b bytes stops) ∙ (number_read (b ∷ bytes) v rest read some).1 in
    omega (arith, rest_shorter not_blank bytes, ap length after)

-- ---- a literal

-- a token that writes a number writes the literal of it
pub number-literal : (variables : ℕ) (token : List ℕ) (n : ℕ) → number_of token ≡ Some n → literal_of variables token ≡ literal_by variables false n
unfolding literal_of number_of
number-literal variables [] n is = absurd (cc)
number-literal variables (b ∷ ds) n is = by (eqb b 45) refl
  where
    minus : (b : ℕ) → b ≡ 45 → number_of (b ∷ ds) ≡ None
    minus b same = ap (λ x. number_of (x ∷ ds)) same

    by : (t : Bool) → eqb b 45 ≡ t → cond t (number_of ds >>= literal_by variables true) (number_of (b ∷ ds) >>= literal_by variables false) ≡ literal_by variables false n
    by true same = let none : None ≡ Some n = sym (minus b (eqb-true b 45 same)) ∙ is in absurd (cc)
    by false differs = ap (λ o. o >>= literal_by variables false) is

no_literal : (variables b : ℕ) (ds : List ℕ) → b ≢ 45 → number_of (b ∷ ds) ≡ None → literal_of variables (b ∷ ds) ≡ None
unfolding literal_of
no_literal variables b ds plain none = by (eqb b 45) refl
  where
    by : (t : Bool) → eqb b 45 ≡ t → cond t (number_of ds >>= literal_by variables true) (number_of (b ∷ ds) >>= literal_by variables false) ≡ None
    by true same = absurd (plain (eqb-true b 45 same))
    by false differs = ap (λ o. o >>= literal_by variables false) none

-- what the code makes of a number is the literal of its token
gives_by : (variables : ℕ) (o : Option Literal) (result : LiteralToken) (rest token : List ℕ) (tokens : List (List ℕ)) → closes token ≡ false → literal_of variables token ≡ o → tokens ≡ token ∷ tokens_of rest
    → IsTokenOf o rest result → GivesLiteral variables result tokens
gives_by variables (Some l) (literals.Literal m after) rest token tokens shut is cut made = (token, shut, is ∙ ap Some (sym made.0), cut ∙ ap (λ r. token ∷ tokens_of r) (sym made.1))
gives_by variables (Some l) (literals.Closing after) rest token tokens shut is cut made = absurd made
gives_by variables (Some l) literals.Malformed rest token tokens shut is cut made = absurd made
gives_by variables None (literals.Literal m after) rest token tokens shut is cut made = absurd made
gives_by variables None (literals.Closing after) rest token tokens shut is cut made = absurd made
gives_by variables None literals.Malformed rest token tokens shut is cut made = subst (NoLiteral variables) (sym cut) (shut, is)

pub shortens_by : (o : Option Literal) (result : LiteralToken) (rest bytes : List ℕ) → IsTokenOf o rest result → length rest < length bytes → LiteralShortens result bytes
shortens_by (Some l) (literals.Literal m after) rest bytes made shorter = omega (arith, ap length made.1, shorter)
shortens_by (Some l) (literals.Closing after) rest bytes made shorter = absurd made
shortens_by (Some l) literals.Malformed rest bytes made shorter = absurd made
shortens_by None (literals.Literal m after) rest bytes made shorter = absurd made
shortens_by None (literals.Closing after) rest bytes made shorter = absurd made
shortens_by None literals.Malformed rest bytes made shorter = tt

pub plain_gives : (variables number : ℕ) (result : LiteralToken) (rest : List ℕ) (tokens : List (List ℕ)) → IsNumber tokens number rest → IsTokenOf (literal_by variables false number) rest result → GivesLiteral variables result tokens
plain_gives variables number result rest tokens is made = gives_by variables (literal_by variables false number) result rest is.0 tokens is.1 (number-literal variables is.0 number is.2) is.3 made

pub plain_none : (variables : ℕ) (bytes : List ℕ) → StopsAt is_blank bytes → NotMinus bytes → NoNumber (tokens_of bytes) → NoLiteral variables (tokens_of bytes)
plain_none variables [] stops plain none = subst (NoLiteral variables) (sym (words_of-nil is_blank)) tt
plain_none variables (b ∷ bytes) stops plain none =
    let cut = tokens_of-first b bytes stops in
    let parts = subst NoNumber cut none in
    let is = token_of-first b bytes stops in
    subst (NoLiteral variables) (sym cut) (parts.0, ap (literal_of variables) is ∙ no_literal variables b (token_of bytes) plain (sym (ap number_of is) ∙ parts.1))

-- after a minus
minus_cut : (bytes : List ℕ) → tokens_of (45 ∷ bytes) ≡ (45 ∷ token_of bytes) ∷ tokens_of (after_token bytes)
minus_cut bytes = tokens_of-first 45 bytes refl

minus_literal : (variables : ℕ) (token : List ℕ) → literal_of variables (45 ∷ token) ≡ (number_of token >>= literal_by variables true)
unfolding literal_of
minus_literal variables token = refl

pub negated_gives : (variables : ℕ) (bytes : List ℕ) (v : ℕ) (rest : List ℕ) (result : LiteralToken) → digits_from 0 bytes ≡ Some (v, rest) → v ≢ 0 → IsTokenOf (literal_by variables true v) rest result → GivesLiteral variables result (tokens_of (45 ∷ bytes))
negated_gives variables bytes v rest result read some made =
    let found = number_read bytes v rest read some in
    gives_by variables (literal_by variables true v) result rest (45 ∷ token_of bytes) (tokens_of (45 ∷ bytes)) refl
    (minus_literal variables (token_of bytes) ∙ ap (λ o. o >>= literal_by variables true) found.0)
    (minus_cut bytes ∙ ap (λ r. (45 ∷ token_of bytes) ∷ tokens_of r) found.1) made

negated_no : (variables : ℕ) (bytes : List ℕ) → number_of (token_of bytes) ≡ None → NoLiteral variables (tokens_of (45 ∷ bytes))
negated_no variables bytes none = subst (NoLiteral variables) (sym (minus_cut bytes)) (refl, minus_literal variables (token_of bytes) ∙ ap (λ o. o >>= literal_by variables true) none)

pub negated_zero : (variables : ℕ) (bytes : List ℕ) (v : ℕ) (rest : List ℕ) → digits_from 0 bytes ≡ Some (v, rest) → v ≡ 0 → NoLiteral variables (tokens_of (45 ∷ bytes))
negated_zero variables bytes v rest read zero_is = negated_no variables bytes (zero_read bytes rest (read ∙ ap (λ n. Some (n, rest)) zero_is))

pub negated_none : (variables : ℕ) (bytes : List ℕ) → digits_from 0 bytes ≡ None → NoLiteral variables (tokens_of (45 ∷ bytes))
negated_none variables bytes read = negated_no variables bytes (none_read bytes read)

pub negated_shortens : (bytes : List ℕ) (v : ℕ) (rest : List ℕ) → digits_from 0 bytes ≡ Some (v, rest) → v ≢ 0 → length rest < length (45 ∷ bytes)
negated_shortens bytes v rest read some = omega (arith, rest_shorter not_blank bytes, ap length (number_read bytes v rest read some).1)
