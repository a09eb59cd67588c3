-- Which lines can be printed and read again: one argument of its kind for each of the form's, and a symbol that is a
-- token.
use Rattle.std.specs.Prelude.{◌≡◌, ℕ, ◌<◌, ◌≤◌, ◌^◌, Bool, not, ◌||◌, IsTrue, List, [], ◌∷◌, length}
use Rattle.std.specs.List.{list_all}
use Rattle.std.specs.Option.{option_to_list}
use Rattle.std.specs.Str.Parse.{IsNumeral}
use Rattle.kw_base.specs.Texts.{is_blank_or_return, is_semicolon, ends_line}
use Rattle.btor2_text.specs.Cut.{number_after}
use Rattle.btor2_text.specs.Forms.{kinds_of, radix_of}
use Rattle.btor2_text.specs.declared.kind.ArgumentKind.{ArgumentKind}
use Rattle.btor2_text.specs.declared.kind.ArgumentKind.TheVariants as kinds
use Rattle.btor2_text.specs.declared.line.Argument.{Argument}
use Rattle.btor2_text.specs.declared.line.Argument.TheVariants as arguments
use Rattle.btor2_text.specs.declared.line.Line.{Line}

-- a number that can be an id
abbrev pub IsIdNumber : ℕ → Type 0
IsIdNumber id = (1 ≤ id) × (id < 2 ^ 64)

-- the argument is of the kind
abbrev pub FitsKind : ArgumentKind → Argument → Type 0
FitsKind kinds.Bitvec argument = argument ≡ arguments.Bitvec
FitsKind kinds.Number argument = (number : ℕ) × (number < 2 ^ 32) × (argument ≡ arguments.Number number)
FitsKind kinds.Sort argument = (id : ℕ) × IsIdNumber id × (argument ≡ arguments.Id id)
FitsKind kinds.Value argument = (id : ℕ) × IsIdNumber id × (argument ≡ arguments.Id id)
FitsKind (kinds.Numeral base) argument = (digits : List ℕ) × IsNumeral (radix_of base) digits × (argument ≡ arguments.Numeral digits)

-- there is one argument of each kind, in order
abbrev pub FitKinds : List ArgumentKind → List Argument → Type 0
FitKinds [] given = given ≡ []
FitKinds (kind ∷ kinds) given = (first : Argument) × (others : List Argument) × (given ≡ first ∷ others) × FitsKind kind first × FitKinds kinds others

-- a byte that a token may have: no blank, no semicolon, no line feed
abbrev pub is_plain : ℕ → Bool
is_plain b = not ((is_blank_or_return b || is_semicolon b) || ends_line b)

-- bytes that are a token: one or more, all plain
pub record IsPlainToken (bytes : List ℕ) : Type 0 where
  pub some_byte : 0 < length bytes
  pub plain : IsTrue (list_all is_plain bytes)

-- each is a token
abbrev pub AreTokens : List (List ℕ) → Type 0
AreTokens [] = Unit {0}
AreTokens (token ∷ tokens) = IsPlainToken token × AreTokens tokens

-- the line is of its form
pub record IsPrintable (line : Line) : Type 0 where
  pub id : IsIdNumber line.id
  pub arguments : FitKinds (kinds_of line.keyword) line.arguments
  pub symbol : AreTokens (option_to_list line.symbol)

-- each line is
abbrev pub ArePrintable : List Line → Type 0
ArePrintable [] = Unit {0}
ArePrintable (line ∷ lines) = IsPrintable line × ArePrintable lines

-- the lines, numbered anew from this number on
abbrev pub numbered_from : ℕ → List Line → List Line
numbered_from number [] = []
numbered_from number (line ∷ lines) = record line { number = number } ∷ numbered_from (number_after number) lines
