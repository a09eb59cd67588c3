-- What private functions alone cite of this crate's `Steps`.
use Rattle.std.specs.Prelude.{ℕ, zero, suc, ◌+◌, ◌-◌, ◌^◌, min, Bool, true, false, not, ◌&&◌, ◌||◌, List, ◌++◌, length, map, take, drop, replicate}
use Rattle.aig_blast.specs.BitLists.{xor}
use Rattle.aig_blast.specs.Steps.{bit_of, sum_after, sign, gated, choose, joined_after}

-- a word of zeros
abbrev pub zeros : ℕ → List Bool
zeros width = replicate width false

-- a sum, a difference and a negation at a width
abbrev pub add : List Bool → List Bool → List Bool
add xs ys = sum_after false xs ys (length xs)

abbrev pub sub : List Bool → List Bool → List Bool
sub xs ys = sum_after true xs (map not ys) (length xs)

abbrev pub neg : List Bool → List Bool
neg xs = sub (zeros (length xs)) xs

-- shifted up, with zeros below, and down, with this bit above
abbrev pub up : ℕ → List Bool → List Bool
up k xs = take (length xs) (zeros k ++ xs)

abbrev pub down : Bool → ℕ → List Bool → List Bool
down fill k xs = drop k xs ++ replicate (min k (length xs)) fill

-- the multiplier after k bits of the second operand
abbrev pub product_after : List Bool → List Bool → ℕ → List Bool
product_after xs ys zero = zeros (length xs)
product_after xs ys (suc k) = add (product_after xs ys k) (gated (bit_of ys k) (up k xs))

abbrev pub mul : List Bool → List Bool → List Bool
mul xs ys = product_after xs ys (length ys)

-- the barrel shifters after k bits of the amount
abbrev pub up_after : List Bool → List Bool → ℕ → List Bool
up_after xs ys zero = xs
up_after xs ys (suc k) = choose (bit_of ys k) (up (2 ^ k) (up_after xs ys k)) (up_after xs ys k)

abbrev pub down_after : Bool → List Bool → List Bool → ℕ → List Bool
down_after fill xs ys zero = xs
down_after fill xs ys (suc k) = choose (bit_of ys k) (down fill (2 ^ k) (down_after fill xs ys k)) (down_after fill xs ys k)

abbrev pub sll : List Bool → List Bool → List Bool
sll xs ys = up_after xs ys (length ys)

abbrev pub srl : List Bool → List Bool → List Bool
srl xs ys = down_after false xs ys (length ys)

abbrev pub sra : List Bool → List Bool → List Bool
sra xs ys = down_after (sign xs) xs ys (length ys)

abbrev pub some_one : List Bool → Bool
some_one xs = joined_after (λ x y. x || y) false xs (length xs)

-- whether two words agree in their first k bits
abbrev pub equal_after : List Bool → List Bool → ℕ → Bool
equal_after xs ys zero = true
equal_after xs ys (suc k) = equal_after xs ys k && not (xor (bit_of xs k) (bit_of ys k))

abbrev pub equal : List Bool → List Bool → Bool
equal xs ys = equal_after xs ys (length xs)

-- the second word above the first, some bits of a word, and a word with as many bits more
abbrev pub concat : List Bool → List Bool → List Bool
concat high low = low ++ high

abbrev pub slice : List Bool → ℕ → ℕ → List Bool
slice xs upper lower = take (upper - lower + 1) (drop lower xs)

abbrev pub zext : List Bool → ℕ → List Bool
zext xs added = xs ++ zeros added

abbrev pub sext : List Bool → ℕ → List Bool
sext xs added = xs ++ replicate added (sign xs)

-- the shifter with stages for the first m bits of the amount alone: any higher bit shifts everything out
abbrev pub down_short : Bool → ℕ → List Bool → List Bool → List Bool
down_short fill m xs ys = choose (some_one (drop m ys)) (replicate (length xs) fill) (down_after fill xs (take m ys) (length (take m ys)))
