-- A word of the language can be written as a symbol of AIGER texts.
use Rattle.std.proofs.Common.{◌≡◌, ◌≢◌, ℕ, true, false, List, [], ◌∷◌, ◌++◌, refl, sym, ap, subst, ◌∙◌}
use Rattle.std.specs.List.{AllByRecursion, list_all}
use Rattle.std.proofs.lemmas.Bool.{and_parts, false≢true}
use Rattle.std.proofs.lemmas.List.Elements.{All-from_recursion}
use Rattle.aig_blast.specs.Aigs.{IsSymbol, IsWordName}
use Rattle.koika_syntax.specs.Lexemes.{IsWord, continues_word}
use Rattle.koika_syntax.proofs.LexemeKinds.{continues-from_begins}

-- each byte continues a word
abbrev Continue : List ℕ → Type 0
Continue bytes = AllByRecursion (λ (b : ℕ). continues_word b ≡ true) bytes

-- a byte of a word is none that isn't
other-byte : (k b : ℕ) → continues_word k ≡ false → continues_word b ≡ true → b ≢ k
other-byte k b stops goes same = false≢true (sym stops ∙ ap continues_word (sym same) ∙ goes)

continue : (bytes : List ℕ) → list_all continues_word bytes ≡ true → Continue bytes
continue [] all = tt
continue (b ∷ bytes) all =
    let parts = and_parts (continues_word b) (list_all continues_word bytes) all in
    (parts.0, continue bytes parts.1)

of-word : (bytes : List ℕ) → IsWord bytes → Continue bytes
of-word [] word = tt
of-word (b ∷ bytes) word = (continues-from_begins b word.0, continue bytes word.1)

some-byte : (bytes : List ℕ) → IsWord bytes → bytes ≢ []
some-byte [] word same = word
some-byte (b ∷ bytes) word same = absurd cc

one-line : (bytes : List ℕ) → Continue bytes → AllByRecursion (λ (byte : ℕ). byte ≢ 10) bytes
one-line [] all = tt
one-line (b ∷ bytes) all = (other-byte 10 b refl all.0, one-line bytes all.1)

begins : (bytes : List ℕ) → Continue bytes → (byte : ℕ) (rest : List ℕ) → bytes ≡ byte ∷ rest → (byte ≢ 32) × (byte ≢ 9)
begins bytes all byte rest same =
    let goes = (subst Continue same all).0 in
    (other-byte 32 byte refl goes, other-byte 9 byte refl goes)

no-return : (rest : List ℕ) → Continue (rest ++ 13 ∷ []) → ⊥
no-return [] all = false≢true all.0
no-return (b ∷ rest) all = no-return rest all.1

pub word-name : (bytes : List ℕ) → IsWord bytes → IsWordName bytes
word-name bytes word = record {
  some = some-byte bytes word;
  one_line = All-from_recursion (λ (byte : ℕ). byte ≢ 10) bytes (one-line bytes (of-word bytes word));
  begins = begins bytes (of-word bytes word);
}

pub word-symbol : (bytes : List ℕ) → IsWord bytes → IsSymbol bytes
word-symbol bytes word = record {
  word = word-name bytes word;
  ends = λ rest same. no-return rest (subst Continue same (of-word bytes word));
}
