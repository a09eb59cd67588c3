-- Which line a row of tokens is, and what a row is that is no line: outside of this project's part of BTOR2, or
-- malformed. BTOR2 (Niemetz et al., CAV 2018); ids may have leading zeros and go up to 2^64 - 1.
use Rattle.std.specs.Prelude.{◌≡◌, ℕ, ◌+◌, ◌<◌, ◌≤◌, ◌^◌, ◌⊎◌, IsTrue, List, [], ◌∷◌, length, drop, Contains, codes}
use Rattle.std.specs.Option.{option_to_list}
use Rattle.std.specs.Str.Parse.{IsNumeral, digits_value}
use Rattle.btor2_text.specs.Forms.{keyword_text, kinds_of, left_out, radix_of, may_be_negative}
use Rattle.btor2_text.specs.declared.keyword.Keyword.{Keyword}
use Rattle.btor2_text.specs.declared.kind.ArgumentKind.{ArgumentKind}
use Rattle.btor2_text.specs.declared.kind.ArgumentKind.TheVariants as kinds
use Rattle.btor2_text.specs.declared.line.Argument.{Argument}
use Rattle.btor2_text.specs.declared.line.Argument.TheVariants as arguments
use Rattle.btor2_text.specs.declared.line.Line.{Line}

-- the token is this id: decimal digits of a number from 1 to 2^64 - 1
pub record IsId (token : List ℕ) (id : ℕ) : Type 0 where
  pub digits : IsNumeral 10 token
  pub value : id ≡ digits_value 10 token
  pub low : 1 ≤ id
  pub high : id < 2 ^ 64

-- the token is this width, bound or count: decimal digits of a number below 2^32
pub record IsNumber (token : List ℕ) (number : ℕ) : Type 0 where
  pub digits : IsNumeral 10 token
  pub value : number ≡ digits_value 10 token
  pub high : number < 2 ^ 32

-- the token is this argument of a kind
abbrev pub IsArgument : ArgumentKind → List ℕ → Argument → Type 0
IsArgument kinds.Bitvec token argument = (token ≡ codes "bitvec") × (argument ≡ arguments.Bitvec)
IsArgument kinds.Number token argument = (number : ℕ) × IsNumber token number × (argument ≡ arguments.Number number)
IsArgument kinds.Sort token argument = (id : ℕ) × IsId token id × (argument ≡ arguments.Id id)
IsArgument kinds.Value token argument = (id : ℕ) × IsId token id × (argument ≡ arguments.Id id)
IsArgument (kinds.Numeral base) token argument = IsNumeral (radix_of base) token × (argument ≡ arguments.Numeral token)

-- the first tokens are these arguments of the kinds
abbrev pub BeginWithArguments : List ArgumentKind → List (List ℕ) → List Argument → Type 0
BeginWithArguments [] tokens given = given ≡ []
BeginWithArguments (kind ∷ kinds) [] given = ⊥
BeginWithArguments (kind ∷ kinds) (token ∷ tokens) given =
    (first : Argument) × (others : List Argument) × (given ≡ first ∷ others) × IsArgument kind token first × BeginWithArguments kinds tokens others

-- the tokens are this line: its id, its keyword, a token for each argument, and a symbol or nothing
pub record IsLine (number : ℕ) (tokens : List (List ℕ)) (line : Line) : Type 0 where
  pub id_token : List ℕ
  pub others : List (List ℕ)
  pub parts : tokens ≡ id_token ∷ keyword_text line.keyword ∷ others
  pub id : IsId id_token line.id
  pub arguments : BeginWithArguments (kinds_of line.keyword) others line.arguments
  pub symbol : drop (length (kinds_of line.keyword)) others ≡ option_to_list line.symbol
  pub number_is : line.number ≡ number

-- the keyword `sort` and the word `array`
abbrev pub IsArraySort : List ℕ → List (List ℕ) → Type 0
IsArraySort word others = (word ≡ codes "sort") × ((more : List (List ℕ)) × (others ≡ codes "array" ∷ more))

-- the keyword is one that is left out, or a sort is one of arrays
pub record IsLeftOut (tokens : List (List ℕ)) : Type 0 where
  pub id_token : List ℕ
  pub word : List ℕ
  pub others : List (List ℕ)
  pub parts : tokens ≡ id_token ∷ word ∷ others
  pub left : Contains left_out word ⊎ IsArraySort word others

-- the token is an operand or a numeral and begins with a minus sign
abbrev pub IsNegative : ArgumentKind → List ℕ → Type 0
IsNegative kind token = IsTrue (may_be_negative kind) × ((digits : List ℕ) × (token ≡ 45 ∷ digits))

-- one of the first tokens, by these kinds, is a negative operand or numeral
abbrev pub HasMinus : List ArgumentKind → List (List ℕ) → Type 0
HasMinus [] tokens = ⊥
HasMinus (kind ∷ kinds) [] = ⊥
HasMinus (kind ∷ kinds) (token ∷ tokens) = IsNegative kind token ⊎ HasMinus kinds tokens

-- the tokens are as many as a form has, and an operand or a numeral begins with a minus sign
pub record IsNegated (tokens : List (List ℕ)) : Type 0 where
  pub id_token : List ℕ
  pub keyword : Keyword
  pub others : List (List ℕ)
  pub parts : tokens ≡ id_token ∷ keyword_text keyword ∷ others
  pub enough : length (kinds_of keyword) ≤ length others
  pub not_more : length others ≤ length (kinds_of keyword) + 1
  pub minus : HasMinus (kinds_of keyword) others

-- the tokens are of a form that BTOR2 has and this project leaves out
abbrev pub IsOutside : List (List ℕ) → Type 0
IsOutside tokens = IsLeftOut tokens ⊎ IsNegated tokens

-- there are tokens, they are no line, and not of a form that is left out
pub record IsMalformed (tokens : List (List ℕ)) : Type 0 where
  pub some_token : 0 < length tokens
  pub no_line : (number : ℕ) (line : Line) → ¬ IsLine number tokens line
  pub not_outside : ¬ IsOutside tokens
