-- The first fault of a text that isn't cut into blanks, comments and tokens: by one scan from the left,
-- 10 for a byte that begins or continues no token, 13 for a number or a literal out of its range,
-- 14 for a name of more than 64 bytes.
use Rattle.std.specs.Prelude.{◌≡◌, ℕ, ◌+◌, ◌<◌, ◌≤◌, ◌^◌, ◌⊎◌, List, ◌++◌, length}
use Rattle.std.specs.List.{flat_map}
use Rattle.std.specs.Str.Parse.{digits_value}
use Rattle.kw_base.specs.declared.fault.Fault.{Fault}
use Rattle.kw_base.specs.Fault.{fault_at}
use Rattle.kw_base.specs.Place.{place_at}
use Rattle.kw_bits.specs.BitVector.{IsBitVector}
use Rattle.koika_syntax.specs.Lexemes.{LexemeKind, LiteralParts, IsLiteral, HasKind, IsLongest, BeginsNoLexeme}
use Rattle.koika_syntax.specs.Tokens.{literal_width, value_of, Piece, bytes_of, IsCut}

-- a lexeme of this kind is no token: this is the fault, and it is this many bytes after the first one
abbrev pub IsWrongLexeme : LexemeKind → List ℕ → (number offset : ℕ) → Type 0
IsWrongLexeme LexemeKind.word bytes number offset = (64 < length bytes) × (number ≡ 14) × (offset ≡ 0)
IsWrongLexeme LexemeKind.number bytes number offset = (2 ^ 32 ≤ digits_value 10 bytes) × (number ≡ 13) × (offset ≡ 0)
IsWrongLexeme LexemeKind.literal bytes number offset =
    (parts : LiteralParts) × IsLiteral parts bytes × (¬ IsBitVector (literal_width parts) (value_of parts)) × (number ≡ 13) × (offset ≡ 0)
IsWrongLexeme LexemeKind.unfinished bytes number offset = (number ≡ 10) × (offset ≡ length bytes)
IsWrongLexeme LexemeKind.blank bytes number offset = ⊥
IsWrongLexeme LexemeKind.comment bytes number offset = ⊥
IsWrongLexeme LexemeKind.symbol bytes number offset = ⊥

-- the text begins with a byte that begins no lexeme
pub record BeginsStray (text : List ℕ) (number offset : ℕ) : Type 0 where
  pub some_byte : 0 < length text
  pub stray : BeginsNoLexeme text
  pub number_is : number ≡ 10
  pub offset_is : offset ≡ 0

-- the longest lexeme that the text begins with is no token
pub record BeginsWrong (text : List ℕ) (number offset : ℕ) : Type 0 where
  pub kind : LexemeKind
  pub bytes : List ℕ
  pub after : List ℕ
  pub front : text ≡ bytes ++ after
  pub lexeme : HasKind kind bytes
  pub longest : IsLongest bytes after
  pub wrong : IsWrongLexeme kind bytes number offset

-- the text begins with this fault, at this offset
abbrev pub BeginsFaulty : List ℕ → (number offset : ℕ) → Type 0
BeginsFaulty text number offset = BeginsStray text number offset ⊎ BeginsWrong text number offset

-- the text is cut into blanks, comments and tokens up to some place, and after it begins with the fault
pub record IsFirstTokenFault (text : List ℕ) (fault : Fault) : Type 0 where
  pub pieces : List Piece
  pub rest : List ℕ
  pub cut : IsCut pieces text rest
  pub offset : ℕ
  pub faulty : BeginsFaulty rest fault.number offset
  pub place : fault ≡ fault_at fault.number (place_at text (length (flat_map bytes_of pieces) + offset))
