-- What circuits of gates make of words, each as it stands after k steps. Words are lists of truth values, bit 0 first.
use Rattle.std.specs.Prelude.{ℕ, zero, suc, ◌-◌, ◌/◌, ◌%◌, ◌^◌, nat_eq, Bool, true, false, not, ◌&&◌, if◌then◌else◌, List, [], ◌∷◌, ◌++◌, length, map, slice_index_or}
use Rattle.aig_blast.specs.BitLists.{xor, carry, choice}

-- the bit at a place
abbrev pub bit_of : List Bool → ℕ → Bool
bit_of xs k = slice_index_or xs k false

-- the ripple adder after k bits: the carry and the sum
abbrev pub carry_after : Bool → List Bool → List Bool → ℕ → Bool
carry_after c xs ys zero = c
carry_after c xs ys (suc k) = carry (bit_of xs k) (bit_of ys k) (carry_after c xs ys k)

abbrev pub sum_after : Bool → List Bool → List Bool → ℕ → List Bool
sum_after c xs ys zero = []
sum_after c xs ys (suc k) = sum_after c xs ys k ++ xor (xor (bit_of xs k) (bit_of ys k)) (carry_after c xs ys k) ∷ []

-- the comparisons: whether a difference has no carry, and where the signs differ, the sign of the first
abbrev pub ult : List Bool → List Bool → Bool
ult xs ys = not (carry_after true xs (map not ys) (length xs))

abbrev pub sign : List Bool → Bool
sign xs = bit_of xs (length xs - 1)

abbrev pub slt : List Bool → List Bool → Bool
slt xs ys = choice (xor (sign xs) (sign ys)) (sign xs) (ult xs ys)

-- a word with each bit taken only where a condition holds
abbrev pub gated : Bool → List Bool → List Bool
gated c xs = map (λ x. x && c) xs

-- the first word where a condition holds, else the second
abbrev pub choose : Bool → List Bool → List Bool → List Bool
choose c xs ys = if c then xs else ys

-- the bits joined by a gate after k of them
abbrev pub joined_after : (Bool → Bool → Bool) → Bool → List Bool → ℕ → Bool
joined_after f start xs zero = start
joined_after f start xs (suc k) = f (joined_after f start xs k) (bit_of xs k)

-- the first k bits of a number
abbrev pub digits : ℕ → ℕ → List Bool
digits n zero = []
digits n (suc k) = digits n k ++ nat_eq (n / 2 ^ k % 2) 1 ∷ []
