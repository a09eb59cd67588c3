-- The lexemes of a design's text: what its bytes are cut into, by their look alone and before any range is
-- looked at. The text form is this project's own; the rule that the longest lexeme is taken is that of C
-- (ISO/IEC 9899:2018, 6.4, paragraph 4). A literal that breaks off is a lexeme too, so digits before an
-- apostrophe are never a number.
use Rattle.std.specs.Prelude.{◌≡◌, ℕ, ◌==◌, Bool, not, ◌||◌, IsTrue, List, [], ◌∷◌, ◌++◌, ◌⊎◌}
use Rattle.std.specs.Char.{is_ascii_alphabetic, is_ascii_alphanumeric}
use Rattle.std.specs.List.{list_all}
use Rattle.std.specs.Str.Parse.{IsNumeral}
use Rattle.koika_syntax.specs.Symbols.{symbol_text}
use Rattle.koika_syntax.specs.declared.literal.Base.{Base}
use Rattle.koika_syntax.specs.declared.literal.Base.TheVariants as bases
use Rattle.koika_syntax.specs.declared.symbol.Symbol.{Symbol}

-- the space, the tab, the carriage return and the line feed
abbrev pub is_blank : ℕ → Bool
is_blank b = ((b == 32) || (b == 9)) || ((b == 13) || (b == 10))

-- a letter or an underscore
abbrev pub begins_word : ℕ → Bool
begins_word b = is_ascii_alphabetic b || (b == 95)

-- a letter, a digit or an underscore
abbrev pub continues_word : ℕ → Bool
continues_word b = is_ascii_alphanumeric b || (b == 95)

-- a name or a keyword: a letter or an underscore, and then letters, digits and underscores
abbrev pub IsWord : List ℕ → Type 0
IsWord [] = ⊥
IsWord (b ∷ bytes) = IsTrue (begins_word b) × IsTrue (list_all continues_word bytes)

-- any byte but a line feed
abbrev pub stays_on_line : ℕ → Bool
stays_on_line b = not (b == 10)

-- two slashes, and any bytes but line feeds
abbrev pub IsComment : List ℕ → Type 0
IsComment bytes = (body : List ℕ) × (bytes ≡ 47 ∷ 47 ∷ body) × IsTrue (list_all stays_on_line body)

-- the letter of a base: `b`, `d` or `h`
abbrev pub letter_of : Base → ℕ
letter_of bases.Binary = 98
letter_of bases.Decimal = 100
letter_of bases.Hexadecimal = 104

-- how many digits a base has
abbrev pub radix_of : Base → ℕ
radix_of bases.Binary = 2
radix_of bases.Decimal = 10
radix_of bases.Hexadecimal = 16

-- the parts of a literal: the digits of its width, its base, and the digits of its value
pub record LiteralParts : Type 0 where
  pub width : List ℕ
  pub base : Base
  pub value : List ℕ

-- the bytes of a literal of these parts, where 39 is the apostrophe
abbrev pub literal_text : LiteralParts → List ℕ
literal_text parts = parts.width ++ 39 ∷ letter_of parts.base ∷ parts.value

-- a width in decimal digits, an apostrophe, the letter of a base, and digits of that base
pub record IsLiteral (parts : LiteralParts) (bytes : List ℕ) : Type 0 where
  pub text : bytes ≡ literal_text parts
  pub width : IsNumeral 10 parts.width
  pub value : IsNumeral (radix_of parts.base) parts.value

-- a literal that breaks off where its base or the first digit of its value should be
abbrev pub IsUnfinished : List ℕ → Type 0
IsUnfinished bytes =
    (width : List ℕ) × IsNumeral 10 width × ((bytes ≡ width ++ 39 ∷ []) ⊎ ((base : Base) × (bytes ≡ width ++ 39 ∷ letter_of base ∷ [])))

-- how lexemes look
pub data LexemeKind : Type 0 where
  blank : LexemeKind
  comment : LexemeKind
  word : LexemeKind
  number : LexemeKind
  literal : LexemeKind
  unfinished : LexemeKind
  symbol : LexemeKind

-- the bytes are a lexeme of this kind
abbrev pub HasKind : LexemeKind → List ℕ → Type 0
HasKind blank bytes = (b : ℕ) × (bytes ≡ b ∷ []) × IsTrue (is_blank b)
HasKind comment bytes = IsComment bytes
HasKind word bytes = IsWord bytes
HasKind number bytes = IsNumeral 10 bytes
HasKind literal bytes = (parts : LiteralParts) × IsLiteral parts bytes
HasKind unfinished bytes = IsUnfinished bytes
HasKind symbol bytes = (s : Symbol) × (bytes ≡ symbol_text s)

-- no lexeme is longer: every front of what follows that makes one together with the bytes is empty
abbrev pub IsLongest : (bytes rest : List ℕ) → Type 0
IsLongest bytes rest = (kind : LexemeKind) (more after : List ℕ) → rest ≡ more ++ after → HasKind kind (bytes ++ more) → more ≡ []

-- no front of the text is a lexeme
abbrev pub BeginsNoLexeme : List ℕ → Type 0
BeginsNoLexeme text = (kind : LexemeKind) (bytes rest : List ℕ) → text ≡ bytes ++ rest → ¬ HasKind kind bytes
