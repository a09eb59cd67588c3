-- That the names among the tokens of a text are in it, as a fact that a value can carry.
use Rattle.std.specs.Prelude.{◌≡◌, ◌≢◌, ℕ, ◌≤◌, Bool, false, ◌&&◌, IsTrue, List, [], ◌∷◌, All, length, slice_range}
use Rattle.std.specs.List.{list_all}
use Rattle.koika_syntax.specs.Keywords.{keyword_text}
use Rattle.koika_syntax.specs.Lexemes.{begins_word, continues_word}
use Rattle.koika_syntax.specs.declared.keyword.Keyword.{Keyword}
use Rattle.koika_syntax.specs.declared.token.Token.{Token}
use Rattle.koika_syntax.specs.declared.token.TokenKind.TheVariants as kinds

-- whether bytes are a letter or an underscore, and then letters, digits and underscores
abbrev pub is_word : List ℕ → Bool
is_word [] = false
is_word (b ∷ bytes) = begins_word b && list_all continues_word bytes

-- the token is within the text, and its bytes are a name
pub record IsNameIn (text : List ℕ) (token : Token) : Type 0 where
  pub order : token.start ≤ token.end
  pub within : token.end ≤ length text
  pub word : IsTrue (is_word (slice_range text token.start token.end))
  pub short : length (slice_range text token.start token.end) ≤ 64
  pub free : (keyword : Keyword) → slice_range text token.start token.end ≢ keyword_text keyword

-- each token that is a name is one of the text
abbrev pub AreNamesIn : List ℕ → List Token → Type 0
AreNamesIn text tokens = All (λ token. token.kind ≡ kinds.Name → IsNameIn text token) tokens
