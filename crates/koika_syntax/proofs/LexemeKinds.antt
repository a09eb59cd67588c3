-- The first byte of a lexeme tells its kind, but for the kinds that begin with a digit.
use Rattle.std.proofs.Common.{◌≡◌, ℕ, ◌<◌, ◌==◌, true, false, cond, List, [], ◌∷◌, ◌++◌, length, length-append, get_or, refl, sym, ap, subst, arith, lit<, ⊎_elim}
use Rattle.std.specs.Char.{is_ascii_digit, digit_value}
use Rattle.std.specs.Str.Parse.{IsNumeral}
use Rattle.std.proofs.lemmas.Bool.Decides.{nat_tests}
use Rattle.koika_syntax.specs.Lexemes.{is_blank, begins_word, continues_word, LexemeKind, HasKind, letter_of}
use Rattle.koika_syntax.specs.Symbols.{symbol_text}
use Rattle.koika_syntax.specs.declared.symbol.Symbol.{Symbol}
use Rattle.koika_syntax.specs.declared.symbol.Symbol.TheVariants as symbols

-- the kinds that begin with a digit are one family, which goes by that of a number
abbrev pub family : LexemeKind → LexemeKind
family LexemeKind.blank = LexemeKind.blank
family LexemeKind.comment = LexemeKind.comment
family LexemeKind.word = LexemeKind.word
family LexemeKind.number = LexemeKind.number
family LexemeKind.literal = LexemeKind.number
family LexemeKind.unfinished = LexemeKind.number
family LexemeKind.symbol = LexemeKind.symbol

-- the family of the lexemes that a byte begins
abbrev pub family_at : ℕ → LexemeKind
family_at b =
    cond (is_blank b) LexemeKind.blank (cond (begins_word b) LexemeKind.word (cond (is_ascii_digit b) LexemeKind.number (cond (b == 47) LexemeKind.comment LexemeKind.symbol)))

word_not_blank : (b : ℕ) → begins_word b ≡ true → is_blank b ≡ false
word_not_blank b h = grind (arith, nat_tests)

digit_not_blank : (b : ℕ) → digit_value b < 10 → is_blank b ≡ false
digit_not_blank b h = grind (arith, nat_tests)

digit_not_word : (b : ℕ) → digit_value b < 10 → begins_word b ≡ false
digit_not_word b h = grind (arith, nat_tests)

digit_is_digit : (b : ℕ) → digit_value b < 10 → is_ascii_digit b ≡ true
digit_is_digit b h = grind (arith, nat_tests)

-- what begins a word also continues one
pub continues-from_begins : (b : ℕ) → begins_word b ≡ true → continues_word b ≡ true
continues-from_begins b h = grind (arith, nat_tests)

pub family-word : (b : ℕ) → begins_word b ≡ true → family_at b ≡ LexemeKind.word
family-word b h = rw (word_not_blank b h, h)

pub family-digit : (b : ℕ) → digit_value b < 10 → family_at b ≡ LexemeKind.number
family-digit b h = rw (digit_not_blank b h, digit_not_word b h, digit_is_digit b h)

-- the family of a symbol's first byte
family-symbol : (s : Symbol) → family_at (get_or (symbol_text s) 0 0) ≡ LexemeKind.symbol
family-symbol symbols.GreaterGreaterGreater = refl
family-symbol symbols.ColonColon = refl
family-symbol symbols.Arrow = refl
family-symbol symbols.EqualsEquals = refl
family-symbol symbols.NotEquals = refl
family-symbol symbols.LessEquals = refl
family-symbol symbols.GreaterEquals = refl
family-symbol symbols.LessLess = refl
family-symbol symbols.GreaterGreater = refl
family-symbol symbols.PlusPlus = refl
family-symbol symbols.LeftBrace = refl
family-symbol symbols.RightBrace = refl
family-symbol symbols.LeftParenthesis = refl
family-symbol symbols.RightParenthesis = refl
family-symbol symbols.LeftBracket = refl
family-symbol symbols.RightBracket = refl
family-symbol symbols.Semicolon = refl
family-symbol symbols.Colon = refl
family-symbol symbols.Comma = refl
family-symbol symbols.Equals = refl
family-symbol symbols.Dot = refl
family-symbol symbols.Plus = refl
family-symbol symbols.Minus = refl
family-symbol symbols.Star = refl
family-symbol symbols.Ampersand = refl
family-symbol symbols.Bar = refl
family-symbol symbols.Caret = refl
family-symbol symbols.Tilde = refl
family-symbol symbols.Less = refl
family-symbol symbols.Greater = refl

-- a lexeme that begins with decimal digits
family-digits : (b : ℕ) (bytes width rest : List ℕ) → b ∷ bytes ≡ width ++ rest → IsNumeral 10 width → family_at b ≡ LexemeKind.number
family-digits b bytes [] rest text numeral = absurd (omega (arith, numeral.0))
family-digits b bytes (w ∷ width) rest text numeral =
    let first : b ≡ w = ap (λ l. get_or l 0 0) text in
    subst (λ (x : ℕ). family_at x ≡ LexemeKind.number) (sym first) (family-digit w numeral.1.0)

-- a lexeme has the family of its first byte
pub family-first : (kind : LexemeKind) (b : ℕ) (bytes : List ℕ) → HasKind kind (b ∷ bytes) → family_at b ≡ family kind
family-first LexemeKind.blank b bytes (x, text, blank) =
    let first : b ≡ x = ap (λ l. get_or l 0 0) text in
    subst (λ (y : ℕ). family_at y ≡ LexemeKind.blank) (sym first) (rw blank)
family-first LexemeKind.comment b bytes (body, text, _) =
    let first : b ≡ 47 = ap (λ l. get_or l 0 0) text in
    subst (λ (y : ℕ). family_at y ≡ LexemeKind.comment) (sym first) refl
family-first LexemeKind.word b bytes (begins, _) = family-word b begins
family-first LexemeKind.number b bytes (_, digits) = family-digit b digits.0
family-first LexemeKind.literal b bytes (parts, literal) = family-digits b bytes parts.width (39 ∷ letter_of parts.base ∷ parts.value) literal.text literal.width
family-first LexemeKind.unfinished b bytes (width, numeral, broken) =
    ⊎_elim
    (λ text. family-digits b bytes width (39 ∷ []) text numeral)
    (λ text. family-digits b bytes width (39 ∷ letter_of text.0 ∷ []) text.1 numeral)
    broken
family-first LexemeKind.symbol b bytes (s, text) =
    let first : b ≡ get_or (symbol_text s) 0 0 = ap (λ l. get_or l 0 0) text in
    subst (λ (y : ℕ). family_at y ≡ LexemeKind.symbol) (sym first) (family-symbol s)

length-symbol_text : (s : Symbol) → 0 < length (symbol_text s)
length-symbol_text symbols.GreaterGreaterGreater = lit< tt
length-symbol_text symbols.ColonColon = lit< tt
length-symbol_text symbols.Arrow = lit< tt
length-symbol_text symbols.EqualsEquals = lit< tt
length-symbol_text symbols.NotEquals = lit< tt
length-symbol_text symbols.LessEquals = lit< tt
length-symbol_text symbols.GreaterEquals = lit< tt
length-symbol_text symbols.LessLess = lit< tt
length-symbol_text symbols.GreaterGreater = lit< tt
length-symbol_text symbols.PlusPlus = lit< tt
length-symbol_text symbols.LeftBrace = lit< tt
length-symbol_text symbols.RightBrace = lit< tt
length-symbol_text symbols.LeftParenthesis = lit< tt
length-symbol_text symbols.RightParenthesis = lit< tt
length-symbol_text symbols.LeftBracket = lit< tt
length-symbol_text symbols.RightBracket = lit< tt
length-symbol_text symbols.Semicolon = lit< tt
length-symbol_text symbols.Colon = lit< tt
length-symbol_text symbols.Comma = lit< tt
length-symbol_text symbols.Equals = lit< tt
length-symbol_text symbols.Dot = lit< tt
length-symbol_text symbols.Plus = lit< tt
length-symbol_text symbols.Minus = lit< tt
length-symbol_text symbols.Star = lit< tt
length-symbol_text symbols.Ampersand = lit< tt
length-symbol_text symbols.Bar = lit< tt
length-symbol_text symbols.Caret = lit< tt
length-symbol_text symbols.Tilde = lit< tt
length-symbol_text symbols.Less = lit< tt
length-symbol_text symbols.Greater = lit< tt

numeral_some : (width rest : List ℕ) → IsNumeral 10 width → 0 < length (width ++ rest)
numeral_some width rest numeral = omega (arith, numeral.0, length-append width rest)

-- a lexeme has some byte
pub length-lexeme : (kind : LexemeKind) (bytes : List ℕ) → HasKind kind bytes → 0 < length bytes
length-lexeme LexemeKind.blank bytes (x, text, _) = omega (arith, ap length text)
length-lexeme LexemeKind.comment bytes (body, text, _) = omega (arith, ap length text)
length-lexeme LexemeKind.word [] has = absurd has
length-lexeme LexemeKind.word (b ∷ bytes) has = omega arith
length-lexeme LexemeKind.number bytes (some, _) = some
length-lexeme LexemeKind.literal bytes (parts, literal) =
    subst (λ l. 0 < length l) (sym literal.text) (numeral_some parts.width (39 ∷ letter_of parts.base ∷ parts.value) literal.width)
length-lexeme LexemeKind.unfinished bytes (width, numeral, broken) =
    ⊎_elim
    (λ text. subst (λ l. 0 < length l) (sym text) (numeral_some width (39 ∷ []) numeral))
    (λ text. subst (λ l. 0 < length l) (sym text.1) (numeral_some width (39 ∷ letter_of text.0 ∷ []) numeral))
    broken
length-lexeme LexemeKind.symbol bytes (s, text) = subst (λ l. 0 < length l) (sym text) (length-symbol_text s)
