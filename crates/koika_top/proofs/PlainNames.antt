-- A word of the language is a token of circuit texts.
use Rattle.std.proofs.Common.{◌≡◌, ℕ, Bool, true, false, eqb, ◌&&◌, List, [], ◌∷◌, refl, sym, ap, ◌∙◌, ⊎_elim, arith}
use Rattle.std.specs.Prelude.{All}
use Rattle.std.specs.List.{list_all}
use Rattle.std.proofs.lemmas.Bool.{false≢true}
use Rattle.std.proofs.lemmas.Bool.Decides.{eqb_tells}
use Rattle.std.proofs.lemmas.List.Elements.{All-weaker}
use Rattle.kw_base.proofs.Conjunction.{and-left, and-right}
use Rattle.koika_syntax.specs.Lexemes.{IsWord, continues_word}
use Rattle.koika_syntax.proofs.LexemeKinds.{continues-from_begins}
use Rattle.btor2_text.specs.Printable.{IsPlainToken, is_plain}

-- a byte of a word is none that isn't
other-byte : (k b : ℕ) → continues_word k ≡ false → continues_word b ≡ true → eqb b k ≡ false
other-byte k b stops goes =
    ⊎_elim (λ same. absurd (false≢true (sym stops ∙ ap continues_word (sym same.1) ∙ goes))) (λ other. other.0) (eqb_tells b k)

plain-byte : (b : ℕ) → continues_word b ≡ true → is_plain b ≡ true
plain-byte b goes =
    let space = other-byte 32 b refl goes in
    let tab = other-byte 9 b refl goes in
    let carriage = other-byte 13 b refl goes in
    let comment = other-byte 59 b refl goes in
    let line = other-byte 10 b refl goes in
    rw (space, tab, carriage, comment, line) refl

plain-bytes : (bytes : List ℕ) → list_all continues_word bytes ≡ true → list_all is_plain bytes ≡ true
plain-bytes [] all = refl
plain-bytes (b ∷ bytes) all =
    rw (plain-byte b (and-left (continues_word b) (list_all continues_word bytes) all), plain-bytes bytes (and-right (continues_word b) (list_all continues_word bytes) all)) refl

-- a word is a token of circuit texts
pub word-token : (bytes : List ℕ) → IsWord bytes → IsPlainToken bytes
word-token [] word = absurd word
word-token (b ∷ bytes) word = record {
  some_byte = omega arith;
  plain = rw (plain-byte b (continues-from_begins b word.0), plain-bytes bytes word.1) refl;
}

-- so names that are words are such tokens
pub words-tokens : {X : Type 0} (name : X → List ℕ) (xs : List X) → All (λ (x : X). IsWord (name x)) xs → All (λ (x : X). IsPlainToken (name x)) xs
words-tokens {X} name xs words = All-weaker (λ (x : X). IsWord (name x)) (λ (x : X). IsPlainToken (name x)) (λ x word. word-token (name x) word) xs words
