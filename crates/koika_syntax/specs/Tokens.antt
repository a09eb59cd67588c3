-- The tokens of a design's text. The text is cut into blanks, comments and tokens, each the longest lexeme
-- that is at its place; what a token is, its bytes say. The text form is this project's own.
use Rattle.std.specs.Prelude.{◌≡◌, ◌≢◌, ℕ, ◌<◌, ◌≤◌, ◌^◌, ◌⊎◌, List, [], ◌∷◌, ◌++◌, length, slice_range, AllPairs}
use Rattle.std.specs.Str.Parse.{IsNumeral, digits_value}
use Rattle.kw_bits.specs.BitVector.{BitVector, IsBitVector}
use Rattle.koika_syntax.specs.Keywords.{keyword_text}
use Rattle.koika_syntax.specs.Symbols.{symbol_text}
use Rattle.koika_syntax.specs.Lexemes.{IsWord, LiteralParts, IsLiteral, radix_of, LexemeKind, HasKind, IsLongest}
use Rattle.koika_syntax.specs.declared.keyword.Keyword.{Keyword}
use Rattle.koika_syntax.specs.declared.token.Token.{Token}
use Rattle.koika_syntax.specs.declared.token.TokenKind.{TokenKind}
use Rattle.koika_syntax.specs.declared.token.TokenKind.TheVariants as kinds

-- the number that the digits of a literal's width write
abbrev pub literal_width : LiteralParts → ℕ
literal_width parts = digits_value 10 parts.width

-- the number that the digits of its value write
abbrev pub value_of : LiteralParts → ℕ
value_of parts = digits_value (radix_of parts.base) parts.value

-- the bits of a literal: its width is from 1 to 128, and its value below 2 to the width
pub record IsLiteralOf (bits : BitVector) (parts : LiteralParts) : Type 0 where
  pub width : bits.width ≡ literal_width parts
  pub number : bits.number ≡ value_of parts
  pub in_range : IsBitVector (literal_width parts) (value_of parts)

-- the bytes are a token of this kind
abbrev pub IsToken : TokenKind → List ℕ → Type 0
IsToken kinds.Name bytes = IsWord bytes × (length bytes ≤ 64) × ((keyword : Keyword) → bytes ≢ keyword_text keyword)
IsToken (kinds.Number n) bytes = IsNumeral 10 bytes × (n ≡ digits_value 10 bytes) × (n < 2 ^ 32)
IsToken (kinds.Literal bits) bytes = (parts : LiteralParts) × IsLiteral parts bytes × IsLiteralOf bits parts
IsToken (kinds.Keyword keyword) bytes = bytes ≡ keyword_text keyword
IsToken (kinds.Symbol symbol) bytes = bytes ≡ symbol_text symbol

-- a piece of a text: a gap, which is one blank or comment, or a token
pub data Piece : Type 0 where
  gap : List ℕ → Piece
  token : TokenKind → List ℕ → Piece

-- the bytes of a piece
abbrev pub bytes_of : Piece → List ℕ
bytes_of (gap bytes) = bytes
bytes_of (token kind bytes) = bytes

-- the piece is what it says of its bytes
abbrev pub IsPiece : Piece → Type 0
IsPiece (gap bytes) = HasKind LexemeKind.blank bytes ⊎ HasKind LexemeKind.comment bytes
IsPiece (token kind bytes) = IsToken kind bytes

-- the text begins with these pieces, each the longest lexeme at its place, and the rest follows
abbrev pub IsCut : List Piece → (text rest : List ℕ) → Type 0
IsCut [] text rest = text ≡ rest
IsCut (piece ∷ pieces) text rest =
    (after : List ℕ) × (text ≡ bytes_of piece ++ after) × IsPiece piece × IsLongest (bytes_of piece) after × IsCut pieces after rest

-- the tokens among pieces, each with its span, where this text comes before the pieces
abbrev pub tokens_behind : List ℕ → List Piece → List Token
tokens_behind before [] = []
tokens_behind before (gap bytes ∷ pieces) = tokens_behind (before ++ bytes) pieces
tokens_behind before (token kind bytes ∷ pieces) =
    record { kind = kind; start = length before; end = length (before ++ bytes) } ∷ tokens_behind (before ++ bytes) pieces

-- the whole text is cut into pieces, and these are the tokens among them
pub record AreTokensOf (tokens : List Token) (text : List ℕ) : Type 0 where
  pub pieces : List Piece
  pub cut : IsCut pieces text []
  pub spans : tokens ≡ tokens_behind [] pieces

-- the token is at its span: these bytes of the text are a token of its kind
pub record StandsIn (text : List ℕ) (found : Token) : Type 0 where
  pub some_byte : found.start < found.end
  pub within : found.end ≤ length text
  pub bytes : IsToken found.kind (slice_range text found.start found.end)

-- no token begins before an earlier one ends
abbrev pub AreAscending : List Token → Type 0
AreAscending tokens = AllPairs (λ a b. a.end ≤ b.start) tokens
