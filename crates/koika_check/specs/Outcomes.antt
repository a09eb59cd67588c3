-- What checking returns: a result, or the first fault. Parts are looked at from left to right; of the conditions of one
-- construct that don't hold, the smallest number counts, and of equal ones the first. This project's own rule.
use Rattle.std.specs.Prelude.{ℕ, nat_lt, Bool, if◌then◌else◌, Option, Some, None, List, [], ◌∷◌}
use Rattle.koika_check.specs.declared.stop.Wrong.{Wrong}

-- this fault at this place, the offset of a byte
abbrev pub wrong : (number place : ℕ) → Wrong
wrong number place = record { number = number; place = place }

-- a result, or a fault
pub data CheckResult (X : Type 0) : Type 0 where
  Gives : (value : X) → CheckResult X
  Fails : (fault : Wrong) → CheckResult X

-- one part, and what comes after it
infixl 10 ◌>>=◌
abbrev pub ◌>>=◌ : {X Y : Type 0} → CheckResult X → (X → CheckResult Y) → CheckResult Y
Gives value >>= next = next value
Fails fault >>= next = Fails fault

-- a condition of a construct: none where it holds, else its fault
abbrev pub Condition : Type 0
Condition = Option Wrong

-- the test holds, or this is the fault
abbrev pub holds : Bool → Wrong → Condition
holds test fault = if test then None else Some fault

-- the first of two faults; and of two the one with the smaller number, the first of two with one number
abbrev pub earlier : Condition → Condition → Condition
earlier None other = other
earlier (Some fault) other = Some fault

-- of two conditions the fault with the smaller number; of equal ones the first
abbrev pub smaller : Condition → Condition → Condition
smaller None other = other
smaller (Some fault) None = Some fault
smaller (Some fault) (Some other) = if nat_lt other.number fault.number then Some other else Some fault

-- the first fault of the conditions, and the smallest
abbrev pub first : List Condition → Condition
first [] = None
first (condition ∷ rest) = earlier condition (first rest)

-- of conditions the fault with the smallest number
abbrev pub smallest : List Condition → Condition
smallest [] = None
smallest (condition ∷ rest) = smaller condition (smallest rest)

-- the result where there is no fault
abbrev pub unless : {X : Type 0} → Condition → X → CheckResult X
unless None value = Gives value
unless (Some fault) value = Fails fault

-- the result where the conditions of a construct hold
abbrev pub where_all : {X : Type 0} → List Condition → X → CheckResult X
where_all conditions value = unless (smallest conditions) value

-- what is looked for, or this is the fault
abbrev pub found : {X : Type 0} → Option X → Wrong → CheckResult X
found None fault = Fails fault
found (Some value) fault = Gives value

-- all parts, from left to right
abbrev pub in_turn : {X Y : Type 0} → (X → CheckResult Y) → List X → CheckResult (List Y)
in_turn look [] = Gives []
in_turn look (x ∷ xs) = look x >>= λ y. in_turn look xs >>= λ ys. Gives (y ∷ ys)

-- parts of which each is looked at after what those before it leave
abbrev pub one_by_one : {X S : Type 0} → (X → S → CheckResult S) → List X → S → CheckResult S
one_by_one look [] s = Gives s
one_by_one look (x ∷ xs) s = look x s >>= λ next. one_by_one look xs next
