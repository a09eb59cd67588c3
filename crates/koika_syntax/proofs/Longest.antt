-- How long the lexemes are that a text begins with, by its first byte.
use Rattle.std.proofs.Common.{◌≡◌, ◌≢◌, ℕ, ◌≤◌, Bool, true, false, ◌==◌, List, [], ◌∷◌, ◌++◌, length, length-append, get_or, refl, sym, ap, ◌∙◌, subst, arith}
use Rattle.std.specs.Char.{is_ascii_digit}
use Rattle.std.specs.List.{list_all, prefix_len}
use Rattle.std.proofs.lemmas.List.{append_assoc}
use Rattle.koika_syntax.specs.Lexemes.{is_blank, begins_word, continues_word, stays_on_line, LexemeKind, HasKind, IsLongest, BeginsNoLexeme}
use Rattle.koika_syntax.specs.Symbols.{symbol_text}
use Rattle.koika_syntax.specs.inner.Symbols.{BeginsWith}
use Rattle.koika_syntax.specs.declared.symbol.Symbol.{Symbol}
use Rattle.koika_syntax.proofs.Runs.{length-le-prefix_len}
use Rattle.kw_base.proofs.Conjunction.{and-true}
use Rattle.koika_syntax.proofs.LexemeKinds.{family, family_at, family-first, family-word, length-lexeme, continues-from_begins}

-- no lexeme at the front of the text is longer than this
pub record NoneLonger (text : List ℕ) (most : ℕ) : Type 0 where
  pub within : (kind : LexemeKind) (bytes rest : List ℕ) → text ≡ bytes ++ rest → HasKind kind bytes → length bytes ≤ most

nothing_more : (more : List ℕ) → length more ≡ 0 → more ≡ []
nothing_more [] h = refl
nothing_more (x ∷ more) h = absurd (omega (arith, h))

-- so bytes of that length are the longest lexeme
pub IsLongest-from_none_longer : (bytes rest : List ℕ) → NoneLonger (bytes ++ rest) (length bytes) → IsLongest bytes rest
IsLongest-from_none_longer bytes rest none kind more after split has =
    let text : bytes ++ rest ≡ (bytes ++ more) ++ after = ap (λ l. bytes ++ l) split ∙ sym (append_assoc bytes more after) in
    let longer = none.within kind (bytes ++ more) after text has in
    nothing_more more (omega (arith, longer, length-append bytes more))

-- and there is none where it is 0
pub BeginsNoLexeme-from_none_longer : (text : List ℕ) → NoneLonger text 0 → BeginsNoLexeme text
BeginsNoLexeme-from_none_longer text none kind bytes rest split has =
    omega (arith, length-lexeme kind bytes has, none.within kind bytes rest split has)

-- what is to be shown, of the kinds of the first byte's family alone
pub NoneLonger-from_family : (b : ℕ) (text : List ℕ) (most : ℕ)
    → ((kind : LexemeKind) (bytes rest : List ℕ) → family_at b ≡ family kind → b ∷ text ≡ (b ∷ bytes) ++ rest → HasKind kind (b ∷ bytes) → length (b ∷ bytes) ≤ most)
    → NoneLonger (b ∷ text) most
NoneLonger-from_family b text most each = record { within = by }
  where
    by : (kind : LexemeKind) (bytes rest : List ℕ) → b ∷ text ≡ bytes ++ rest → HasKind kind bytes → length bytes ≤ most
    by kind [] rest split has = omega arith
    by kind (c ∷ bytes) rest split has =
        let first : c ≡ b = sym (ap (λ l. get_or l 0 0) split) in
        let has_b = subst (λ (x : ℕ). HasKind kind (x ∷ bytes)) first has in
        let split_b = subst (λ (x : ℕ). b ∷ text ≡ (x ∷ bytes) ++ rest) first split in
        each kind bytes rest (family-first kind b bytes has_b) split_b has_b

pub only_kind : (kind : LexemeKind) → family kind ≢ LexemeKind.number → family kind ≡ kind
only_kind LexemeKind.blank other = refl
only_kind LexemeKind.comment other = refl
only_kind LexemeKind.word other = refl
only_kind LexemeKind.number other = refl
only_kind LexemeKind.literal other = absurd (other refl)
only_kind LexemeKind.unfinished other = absurd (other refl)
only_kind LexemeKind.symbol other = refl

-- the same where the family has one kind
NoneLonger-from_kind : (b : ℕ) (text : List ℕ) (most : ℕ) (kind : LexemeKind) → family_at b ≡ kind → kind ≢ LexemeKind.number
    → ((bytes rest : List ℕ) → b ∷ text ≡ (b ∷ bytes) ++ rest → HasKind kind (b ∷ bytes) → length (b ∷ bytes) ≤ most)
    → NoneLonger (b ∷ text) most
NoneLonger-from_kind b text most kind is other each =
    NoneLonger-from_family b text most
    (λ found bytes rest same split has.
    let family_is : family found ≡ kind = sym same ∙ is in
    let found_is : found ≡ kind = sym (only_kind found (λ number. other (sym family_is ∙ number))) ∙ family_is in
    each bytes rest split (subst (λ (s : LexemeKind). HasKind s (b ∷ bytes)) found_is has))

-- a blank stands alone
pub NoneLonger-blank : (b : ℕ) (text : List ℕ) → is_blank b ≡ true → NoneLonger (b ∷ text) 1
NoneLonger-blank b text blank =
    NoneLonger-from_kind b text 1 LexemeKind.blank (rw blank) (λ e. cc) (λ bytes rest split has. omega (arith, ap length has.1))

-- a word goes as far as bytes continue it
pub NoneLonger-word : (b : ℕ) (text : List ℕ) → begins_word b ≡ true → NoneLonger (b ∷ text) (prefix_len continues_word (b ∷ text))
NoneLonger-word b text begins =
    NoneLonger-from_kind b text (prefix_len continues_word (b ∷ text)) LexemeKind.word (family-word b begins) (λ e. cc)
    (λ bytes rest split has.
    subst (λ l. length (b ∷ bytes) ≤ prefix_len continues_word l) (sym split)
    (length-le-prefix_len continues_word (b ∷ bytes) rest (and-true (continues_word b) (list_all continues_word bytes) (continues-from_begins b begins) has.1)))

-- a comment goes as far as the line
pub NoneLonger-comment : (text : List ℕ) → NoneLonger (47 ∷ text) (prefix_len stays_on_line (47 ∷ text))
NoneLonger-comment text =
    NoneLonger-from_kind 47 text (prefix_len stays_on_line (47 ∷ text)) LexemeKind.comment refl (λ e. cc)
    (λ bytes rest split has.
    subst (λ l. length (47 ∷ bytes) ≤ prefix_len stays_on_line l) (sym split)
    (length-le-prefix_len stays_on_line (47 ∷ bytes) rest (ap (list_all stays_on_line) has.1 ∙ has.2)))

-- what begins as no blank, word, number or comment is a symbol
pub NoneLonger-symbol : (b : ℕ) (text : List ℕ) (most : ℕ) → is_blank b ≡ false → begins_word b ≡ false → is_ascii_digit b ≡ false
    → ¬ BeginsWith (b ∷ text) (47 ∷ 47 ∷ [])
    → ((s : Symbol) → BeginsWith (b ∷ text) (symbol_text s) → length (symbol_text s) ≤ most)
    → NoneLonger (b ∷ text) most
NoneLonger-symbol b text most blank word digit comment symbols = by (b == 47) refl
  where
    by : (slash : Bool) → (b == 47) ≡ slash → NoneLonger (b ∷ text) most
    by true is =
        NoneLonger-from_kind b text most LexemeKind.comment (rw (blank, word, digit, is)) (λ e. cc)
        (λ bytes rest split has. absurd (comment (has.0 ++ rest, split ∙ ap (λ l. l ++ rest) has.1)))
    by false is =
        NoneLonger-from_kind b text most LexemeKind.symbol (rw (blank, word, digit, is)) (λ e. cc)
        (λ bytes rest split has. subst (λ l. length l ≤ most) (sym has.1) (symbols has.0 (rest, split ∙ ap (λ l. l ++ rest) has.1)))
