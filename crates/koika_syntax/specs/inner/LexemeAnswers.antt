-- What the calls that read one lexeme return: the piece that a text begins with, or the fault.
use Rattle.std.specs.Prelude.{◌≡◌, ℕ, ◌+◌, ◌<◌, List, [], ◌∷◌, ◌++◌, length, drop, Option, None, Some, Result, Ok, Err}
use Rattle.kw_base.specs.declared.fault.Fault.{Fault}
use Rattle.kw_base.specs.Fault.{fault_at}
use Rattle.kw_base.specs.Place.{place_at}
use Rattle.koika_syntax.specs.Lexemes.{IsLongest}
use Rattle.koika_syntax.specs.Tokens.{Piece, IsPiece}
use Rattle.koika_syntax.specs.TokenFaults.{BeginsFaulty}
use Rattle.koika_syntax.specs.declared.lexeme.Flaw.{Flaw}
use Rattle.koika_syntax.specs.declared.lexeme.Flaw.TheVariants as flaws
use Rattle.koika_syntax.specs.declared.lexeme.Lexeme.{Lexeme}
use Rattle.koika_syntax.specs.declared.token.Token.{Token}
use Rattle.koika_syntax.specs.declared.token.TokenKind.{TokenKind}
use Rattle.koika_syntax.specs.declared.token.TokenKind.TheVariants as kinds
use Rattle.koika_syntax.specs.declared.word.WordKind.{WordKind}
use Rattle.koika_syntax.specs.declared.word.WordKind.TheVariants as words

-- the piece of these bytes: a token of a kind, or else a blank or a comment
abbrev pub piece_of : Option TokenKind → List ℕ → Piece
piece_of None bytes = Piece.gap bytes
piece_of (Some kind) bytes = Piece.token kind bytes

-- the text begins with this piece, of this many bytes, and it is the longest lexeme there
pub record BeginsWithPiece (text : List ℕ) (token : Option TokenKind) (len : ℕ) : Type 0 where
  pub bytes : List ℕ
  pub after : List ℕ
  pub front : text ≡ bytes ++ after
  pub some_byte : 0 < length bytes
  pub len_is : len ≡ length bytes
  pub piece : IsPiece (piece_of token bytes)
  pub longest : IsLongest bytes after

-- the number of the fault
abbrev pub number_of : Flaw → ℕ
number_of (flaws.Byte offset) = 10
number_of flaws.Range = 13
number_of flaws.LongName = 14

-- how many bytes after the text's first byte the fault is
abbrev pub offset_of : Flaw → ℕ
offset_of (flaws.Byte offset) = offset
offset_of flaws.Range = 0
offset_of flaws.LongName = 0

-- the token that a word is
abbrev pub token_of_word : WordKind → TokenKind
token_of_word (words.Keyword keyword) = kinds.Keyword keyword
token_of_word words.Name = kinds.Name

-- the answer is the token that the text begins with, or its fault
abbrev pub IsAnswer : {K : Type 0} → (K → TokenKind) → List ℕ → Result (Lexeme K) Flaw → Type 0
IsAnswer token_of text (Ok lexeme) = BeginsWithPiece text (Some (token_of lexeme.kind)) lexeme.len
IsAnswer token_of text (Err flaw) = BeginsFaulty text (number_of flaw) (offset_of flaw)

-- the token of a span, if what is there is one
abbrev pub tokens_of : Option TokenKind → (start end : ℕ) → List Token
tokens_of None start end = []
tokens_of (Some kind) start end = record { kind = kind; start = start; end = end } ∷ []

-- a piece of the text is between the offset and the end, and its token, if it is one, came after those before
pub record HasRead (text : List ℕ) (offset : ℕ) (before after : List Token) (end : ℕ) : Type 0 where
  pub token : Option TokenKind
  pub len : ℕ
  pub begins : BeginsWithPiece (drop offset text) token len
  pub end_is : end ≡ offset + len
  pub tokens : after ≡ before ++ tokens_of token offset end

-- the text after the offset begins with the fault
pub record BeginsFault (text : List ℕ) (offset : ℕ) (fault : Fault) : Type 0 where
  pub further : ℕ
  pub faulty : BeginsFaulty (drop offset text) fault.number further
  pub place : fault ≡ fault_at fault.number (place_at text (offset + further))
