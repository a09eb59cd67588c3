-- The names of a text stand in it.
use Rattle.std.proofs.Common.{◌≡◌, ℕ, Bool, true, false, ◌&&◌, IsTrue, List, [], ◌∷◌, ◌≤◌, length, refl, subst, arith}
use Rattle.std.specs.Prelude.{slice_range}
use Rattle.std.specs.List.{list_all, All}
use Rattle.std.proofs.lemmas.Bool.{false≢true}
use Rattle.koika_syntax.specs.Lexemes.{IsWord, begins_word, continues_word}
use Rattle.koika_syntax.specs.Tokens.{IsToken, StandsIn}
use Rattle.koika_syntax.specs.declared.token.Token.{Token}
use Rattle.koika_syntax.specs.declared.token.TokenKind.TheVariants as kinds
use Rattle.koika_parse.specs.inner.Names.{AreNamesIn, IsNameIn, is_word}

both : (a b : Bool) → a ≡ true → b ≡ true → (a && b) ≡ true
both true b x y = y
both false b x y = x

each : (a b : Bool) → (a && b) ≡ true → (a ≡ true) × (b ≡ true)
each true b x = (refl, x)
each false b x = absurd (false≢true x)

word_is : (bytes : List ℕ) → IsWord bytes → IsTrue (is_word bytes)
word_is [] w = absurd w
word_is (b ∷ bytes) w = both (begins_word b) (list_all continues_word bytes) w.0 w.1

pub is_a_word : (bytes : List ℕ) → IsTrue (is_word bytes) → IsWord bytes
is_a_word [] w = absurd (false≢true w)
is_a_word (b ∷ bytes) w = each (begins_word b) (list_all continues_word bytes) w

name_stands : (text : List ℕ) (token : Token) → StandsIn text token → token.kind ≡ kinds.Name → IsNameIn text token
name_stands text token stands named =
    let is : IsToken kinds.Name (slice_range text token.start token.end) = subst (λ k. IsToken k (slice_range text token.start token.end)) named stands.bytes in
    record { order = omega (arith, stands.some_byte); within = stands.within; word = word_is (slice_range text token.start token.end) is.0; short = is.1; free = is.2 }

pub names_stand : (text : List ℕ) (tokens : List Token) → All (StandsIn text) tokens → AreNamesIn text tokens
names_stand text tokens stand k d within named = name_stands text _ (stand k d within) named

pub starts_stand : (text : List ℕ) (tokens : List Token) → All (StandsIn text) tokens → All (λ token. token.start ≤ length text) tokens
starts_stand text tokens stand k d within = let s = stand k d within in omega (arith, s.some_byte, s.within)

-- a name of the text is a name
pub name_is : {text : List ℕ} {token : Token} → IsNameIn text token → IsToken kinds.Name (slice_range text token.start token.end)
name_is {text} {token} is = (is_a_word (slice_range text token.start token.end) is.word, is.short, is.free)
