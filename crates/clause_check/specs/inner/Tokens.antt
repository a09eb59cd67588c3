-- What the calls return that look for the next token of a line. Only contracts of private functions cite it.
use Rattle.std.specs.Prelude.{◌≡◌, ◌≢◌, ℕ, ◌+◌, ◌*◌, ◌<◌, ◌≤◌, ◌^◌, Bool, true, false, if◌then◌else◌, nat_lt, bytes_eq, List, [], ◌∷◌, All, length, Option, None, Some}
use Rattle.kw_base.specs.declared.fault.Fault.{Fault}
use Rattle.std.specs.Char.{digit_value, is_digit}
use Rattle.kw_base.specs.Texts.{is_blank}
use Rattle.clause_check.specs.Clauses.{Clause}
use Rattle.clause_check.specs.Lines.{tokens_of}
use Rattle.clause_check.specs.Refutations.{fault_in}
use Rattle.clause_check.specs.inner.Cuts.{not_blank}
use Rattle.clause_check.specs.Steps.{◌>>=◌, Step, skips, adds, drops, closes, literal_of, number_of}
use Rattle.clause_check.specs.declared.literal.Literal.{Literal}
use Rattle.clause_check.specs.declared.step.Form.{Form}
use Rattle.clause_check.specs.declared.step.Form.TheVariants as forms
use Rattle.clause_check.specs.declared.token.LiteralToken.{LiteralToken}
use Rattle.clause_check.specs.declared.token.LiteralToken.TheVariants as literals
use Rattle.clause_check.specs.declared.token.NumberToken.{NumberToken}
use Rattle.clause_check.specs.declared.token.NumberToken.TheVariants as numbers

-- the value of a decimal digit
abbrev pub digit_of : ℕ → Option ℕ
digit_of byte = if is_digit byte 10 then Some (digit_value byte) else None

-- a number, if it is below 2 to the 63
abbrev pub if_small : ℕ → Option ℕ
if_small value = if nat_lt value (2 ^ 63) then Some value else None

-- the number that digits write after others, up to a blank or the end, and the bytes after them
abbrev pub digits_from : ℕ → List ℕ → Option (ℕ × List ℕ)
digits_from value [] = Some (value, [])
digits_from value (b ∷ bytes) =
    if is_digit b 10 then (if_small (value * 10 + digit_value b) >>= λ (more : ℕ). digits_from more bytes)
    else (if is_blank b then Some (value, b ∷ bytes) else None)

-- the first token closes no list and is no number
abbrev pub NoNumber : List (List ℕ) → Type 0
NoNumber [] = Unit {0}
NoNumber (token ∷ tokens) = (closes token ≡ false) × (number_of token ≡ None)

abbrev pub NoLiteral : ℕ → List (List ℕ) → Type 0
NoLiteral variables [] = Unit {0}
NoLiteral variables (token ∷ tokens) = (closes token ≡ false) × (literal_of variables token ≡ None)

-- the first token closes a list
abbrev pub Closes : List (List ℕ) → List ℕ → Type 0
Closes tokens rest = (token : List ℕ) × (closes token ≡ true) × (number_of token ≡ None) × (tokens ≡ token ∷ tokens_of rest)

-- the first token is a number
abbrev pub IsNumber : List (List ℕ) → ℕ → List ℕ → Type 0
IsNumber tokens number rest = (token : List ℕ) × (closes token ≡ false) × (number_of token ≡ Some number) × (tokens ≡ token ∷ tokens_of rest)

-- the first token is a literal
abbrev pub IsLiteralAt : ℕ → List (List ℕ) → Literal → List ℕ → Type 0
IsLiteralAt variables tokens literal rest =
    (token : List ℕ) × (closes token ≡ false) × (literal_of variables token ≡ Some literal) × (tokens ≡ token ∷ tokens_of rest)

-- a number comes first, a closing token, or neither
abbrev pub GivesNumber : NumberToken → List (List ℕ) → Type 0
GivesNumber (numbers.Number number rest) tokens = IsNumber tokens number rest.now
GivesNumber (numbers.Closing rest) tokens = Closes tokens rest.now
GivesNumber numbers.Malformed tokens = NoNumber tokens

abbrev pub GivesLiteral : ℕ → LiteralToken → List (List ℕ) → Type 0
GivesLiteral variables (literals.Literal literal rest) tokens = IsLiteralAt variables tokens literal rest.now
GivesLiteral variables (literals.Closing rest) tokens = Closes tokens rest.now
GivesLiteral variables literals.Malformed tokens = NoLiteral variables tokens

-- what comes after a token is shorter
abbrev pub NumberShortens : NumberToken → List ℕ → Type 0
NumberShortens (numbers.Number number rest) bytes = length rest.now < length bytes
NumberShortens (numbers.Closing rest) bytes = length rest.now < length bytes
NumberShortens numbers.Malformed bytes = Unit {0}

abbrev pub LiteralShortens : LiteralToken → List ℕ → Type 0
LiteralShortens (literals.Literal literal rest) bytes = length rest.now < length bytes
LiteralShortens (literals.Closing rest) bytes = length rest.now < length bytes
LiteralShortens literals.Malformed bytes = Unit {0}

-- a literal is of one of the variables
abbrev pub LiteralIsWithin : ℕ → LiteralToken → Type 0
LiteralIsWithin variables (literals.Literal literal rest) = literal.variable ≤ variables
LiteralIsWithin variables (literals.Closing rest) = Unit {0}
LiteralIsWithin variables literals.Malformed = Unit {0}

-- a token is of a literal, if there is one
abbrev pub IsTokenOf : Option Literal → List ℕ → LiteralToken → Type 0
IsTokenOf (Some literal) rest (literals.Literal found after) = (found ≡ literal) × (after.now ≡ rest)
IsTokenOf (Some literal) rest (literals.Closing after) = ⊥
IsTokenOf (Some literal) rest literals.Malformed = ⊥
IsTokenOf None rest (literals.Literal found after) = ⊥
IsTokenOf None rest (literals.Closing after) = ⊥
IsTokenOf None rest literals.Malformed = Unit {0}

-- bytes go on with one that isn't blank
abbrev pub begins_shown : List ℕ → Bool
begins_shown [] = false
begins_shown (b ∷ bytes) = not_blank b

-- the first byte is no minus
abbrev pub NotMinus : List ℕ → Type 0
NotMinus [] = Unit {0}
NotMinus (b ∷ bytes) = b ≢ 45

-- the first token isn't this letter
abbrev pub NotFirst : ℕ → List (List ℕ) → Type 0
NotFirst letter [] = Unit {0}
NotFirst letter (token ∷ tokens) = bytes_eq token (letter ∷ []) ≡ false

-- the variables of literals are these
abbrev pub AreWithin : ℕ → Clause → Type 0
AreWithin variables clause = All (λ (literal : Literal). literal.variable ≤ variables) clause

-- where a clause is added, its literals are of these variables
abbrev pub FormIsWithin : ℕ → Form → Clause → Type 0
FormIsWithin variables forms.Skips clause = Unit {0}
FormIsWithin variables (forms.Adds number) clause = AreWithin variables clause
FormIsWithin variables forms.Drops clause = Unit {0}

-- the fault says that the line isn't of the form that was read
abbrev pub IsMalformed : {X : Type 0} → ℕ → Option X → Fault → Type 0
IsMalformed line read fault = (fault ≡ fault_in 93 line) × (read ≡ None)

-- what a line says, by its form and its lists
abbrev pub step_by : Form → Clause → List ℕ → Step
step_by forms.Skips literals numbers = skips
step_by (forms.Adds number) literals numbers = adds number literals numbers
step_by forms.Drops literals numbers = drops numbers
