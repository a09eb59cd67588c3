-- What a line of a refutation says, by its tokens, after the text form of LRAT (Cruz-Filipe et al., CADE 2017): `ID LIT .. 0
-- HINT .. 0` adds a clause, `ID d NUM .. 0` drops clauses. Lines without tokens and comments, whose first token is `c`, are skipped.
-- Hints with a minus, which begin RAT steps, are left out.
use Rattle.std.specs.Prelude.{ℕ, ◌==◌, ◌^◌, ◌&&◌, Bool, true, false, if◌then◌else◌, nat_le, nat_lt, bytes_eq, codes, List, [], ◌∷◌, Option, None, Some, option_and_then, option_map}
use Rattle.std.specs.Char.{is_digit}
use Rattle.std.specs.List.{list_all}
use Rattle.std.specs.Str.Parse.{digits_value}
use Rattle.kw_base.specs.Texts.{has_bytes}
use Rattle.clause_check.specs.Clauses.{Clause}
use Rattle.clause_check.specs.declared.literal.Literal.{Literal}

infixl 10 ◌>>=◌
abbrev pub ◌>>=◌ : {A B : Type 0} → Option A → (A → Option B) → Option B
o >>= f = option_and_then f o

-- a line that is skipped, that adds a clause with a number and hints, or that drops the clauses of numbers
pub data Step : Type 0 where
  skips : Step
  adds : ℕ → Clause → List ℕ → Step
  drops : List ℕ → Step

-- decimal digits alone, at least one
abbrev pub is_numeral : List ℕ → Bool
is_numeral token = has_bytes token && list_all (λ b. is_digit b 10) token

-- a number of clauses goes from 1 to 2 to the 63, less one
abbrev pub is_number : ℕ → Bool
is_number n = nat_le 1 n && nat_lt n (2 ^ 63)

-- the number that a token writes, if it writes one
unfoldable pub number_of : List ℕ → Option ℕ
number_of token = if is_numeral token && is_number (digits_value 10 token) then Some (digits_value 10 token) else None

-- the literal of a variable's number, if there is that variable
abbrev pub literal_by : ℕ → Bool → ℕ → Option Literal
literal_by variables is_negated number =
    if nat_le number variables then Some (record { variable = number; is_negated = is_negated }) else None

-- the literal that a token writes, after a minus a negated one
unfoldable pub literal_of : ℕ → List ℕ → Option Literal
literal_of variables [] = None
literal_of variables (b ∷ bytes) =
    if b == 45 then number_of bytes >>= literal_by variables true
    else number_of (b ∷ bytes) >>= literal_by variables false

-- the token that closes a list
abbrev pub closes : List ℕ → Bool
closes token = bytes_eq token (codes "0")

-- the literals up to a closing token, and the tokens after it
abbrev pub literals_in : ℕ → List (List ℕ) → Option (Clause × List (List ℕ))
literals_in variables [] = None
literals_in variables (token ∷ tokens) =
    if closes token then Some ([], tokens)
    else (literal_of variables token >>= λ (literal : Literal). literals_in variables tokens >>= λ (found : Clause × List (List ℕ)). Some (literal ∷ found.0, found.1))

-- no number, where no token is left
abbrev pub at_end : List (List ℕ) → Option (List ℕ)
at_end [] = Some []
at_end (token ∷ tokens) = None

-- the numbers up to a closing token, which is the last
abbrev pub numbers_in : List (List ℕ) → Option (List ℕ)
numbers_in [] = None
numbers_in (token ∷ tokens) =
    if closes token then at_end tokens
    else (number_of token >>= λ (number : ℕ). numbers_in tokens >>= λ (numbers : List ℕ). Some (number ∷ numbers))

-- the literals and the hints of a clause with a number
abbrev pub addition_in : ℕ → ℕ → List (List ℕ) → Option Step
addition_in variables number tokens =
    literals_in variables tokens >>= λ (found : Clause × List (List ℕ)). numbers_in found.1 >>= λ (hints : List ℕ). Some (adds number found.0 hints)

abbrev pub numbered_in : ℕ → ℕ → List (List ℕ) → Option Step
numbered_in variables number [] = None
numbered_in variables number (token ∷ tokens) =
    if bytes_eq token (codes "d") then option_map drops (numbers_in tokens)
    else addition_in variables number (token ∷ tokens)

-- what tokens say, if they are of a form
unfoldable pub step_of : ℕ → List (List ℕ) → Option Step
step_of variables [] = Some skips
step_of variables (token ∷ tokens) =
    if bytes_eq token (codes "c") then Some skips
    else (number_of token >>= λ (number : ℕ). numbered_in variables number tokens)
