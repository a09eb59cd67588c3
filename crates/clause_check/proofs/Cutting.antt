-- How tokens are cut off the front of bytes.
use Rattle.std.proofs.Common.{◌≡◌, ℕ, Bool, true, false, not, cond, List, [], ◌∷◌, ◌++◌, refl, sym, ap, ◌∙◌}
use Rattle.kw_base.specs.Texts.{is_blank, rest_of}
use Rattle.kw_base.proofs.Words.{front-rest, front_passes, rest_stops, words_of-blank, words_of-word}
use Rattle.clause_check.specs.Lines.{tokens_of}
use Rattle.clause_check.specs.inner.Cuts.{after_token, not_blank, token_of}

-- blanks before tokens are no part of them
pub tokens_of-rest : (bytes : List ℕ) → tokens_of bytes ≡ tokens_of (rest_of is_blank bytes)
tokens_of-rest [] = refl
tokens_of-rest (b ∷ bytes) = by (tokens_of-rest bytes) (is_blank b) refl
  where
    by : tokens_of bytes ≡ tokens_of (rest_of is_blank bytes) → (t : Bool) → is_blank b ≡ t → tokens_of (b ∷ bytes) ≡ tokens_of (cond t (rest_of is_blank bytes) (b ∷ bytes))
    by more true blank = words_of-blank is_blank b bytes blank ∙ more
    by more false other = refl

-- bytes that begin with no blank begin with a token
pub tokens_of-first : (b : ℕ) (bytes : List ℕ) → is_blank b ≡ false → tokens_of (b ∷ bytes) ≡ token_of (b ∷ bytes) ∷ tokens_of (after_token (b ∷ bytes))
tokens_of-first b bytes shown = ap tokens_of (front-rest not_blank (b ∷ bytes)) ∙ at
  where
    passes : not_blank b ≡ true
    passes = ap not shown

    token_is : token_of (b ∷ bytes) ≡ b ∷ token_of bytes
    token_is = ap (λ t. cond t (b ∷ token_of bytes) []) passes

    at : tokens_of (token_of (b ∷ bytes) ++ after_token (b ∷ bytes)) ≡ token_of (b ∷ bytes) ∷ tokens_of (after_token (b ∷ bytes))
    at =
        ap (λ token. tokens_of (token ++ after_token (b ∷ bytes))) token_is
        ∙ words_of-word is_blank b (token_of bytes) (after_token (b ∷ bytes)) (rw token_is at (front_passes not_blank (b ∷ bytes))) (rest_stops not_blank (b ∷ bytes))
        ∙ ap (λ token. token ∷ tokens_of (after_token (b ∷ bytes))) (sym token_is)

-- the token and what comes after it, by the first byte
pub token_of-first : (b : ℕ) (bytes : List ℕ) → is_blank b ≡ false → token_of (b ∷ bytes) ≡ b ∷ token_of bytes
token_of-first b bytes shown = ap (λ t. cond (not t) (b ∷ token_of bytes) []) shown

pub after_token-first : (b : ℕ) (bytes : List ℕ) → is_blank b ≡ false → after_token (b ∷ bytes) ≡ after_token bytes
after_token-first b bytes shown = ap (λ t. cond (not t) (after_token bytes) (b ∷ bytes)) shown

pub token_of-blank : (b : ℕ) (bytes : List ℕ) → is_blank b ≡ true → token_of (b ∷ bytes) ≡ []
token_of-blank b bytes blank = ap (λ t. cond (not t) (b ∷ token_of bytes) []) blank

pub after_token-blank : (b : ℕ) (bytes : List ℕ) → is_blank b ≡ true → after_token (b ∷ bytes) ≡ b ∷ bytes
after_token-blank b bytes blank = ap (λ t. cond (not t) (after_token bytes) (b ∷ bytes)) blank
