-- Words as lists of truth values, bit 0 first, and what circuits of gates make of them.
use Rattle.std.specs.Prelude.{ℕ, ◌+◌, ◌*◌, Bool, true, false, not, ◌&&◌, ◌||◌, if◌then◌else◌, List, [], ◌∷◌, length}
use Rattle.kw_bits.specs.BitVector.{BitVector}

-- a truth value as a number
abbrev pub bit : Bool → ℕ
bit true = 1
bit false = 0

-- the number of a word
abbrev pub number : List Bool → ℕ
number [] = 0
number (x ∷ xs) = bit x + 2 * number xs

-- a word as a bit vector
abbrev pub as_bits : List Bool → BitVector
as_bits xs = record { width = length xs; number = number xs }

-- whether exactly one of two holds
abbrev pub xor : Bool → Bool → Bool
xor true y = not y
xor false y = y

-- the choice of the first where a condition holds, else the second
abbrev pub choice : Bool → Bool → Bool → Bool
choice c x y = if c then x else y

-- the carry of a full adder
abbrev pub carry : Bool → Bool → Bool → Bool
carry x y c = (x && y) || (c && xor x y)

-- a function of two bits at each place
abbrev pub zip_with : (Bool → Bool → Bool) → List Bool → List Bool → List Bool
zip_with f (x ∷ xs) (y ∷ ys) = f x y ∷ zip_with f xs ys
zip_with f _ _ = []
