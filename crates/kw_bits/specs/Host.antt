-- What each kind of host function answers, by arithmetic on numbers: counts of bits as in the instructions
-- `popcnt` and `lzcnt`, reversal, the reflected binary code (Gray, US patent 2632058, 1953), the distance of two words
-- (Hamming, 1950), the order of a plane's points (Morton, 1966), and the sum that saturates. Bit 0 is the lowest.
use Rattle.std.specs.Prelude.{◌≡◌, ℕ, zero, suc, ◌+◌, ◌-◌, ◌*◌, ◌/◌, ◌%◌, ◌^◌, ◌≤◌, min, if◌then◌else◌, nat_eq, bit_xor, count_ones}
use Rattle.std.specs.Int.{bit_at}
use Rattle.std.specs.Int.Count.{count_leading_zeros}
use Rattle.kw_bits.specs.BitVector.{BitVector}
use Rattle.kw_bits.specs.declared.host.HostKind.{HostKind}
use Rattle.kw_bits.specs.declared.host.HostKind.TheVariants.{Popcount, Parity, Reverse, LeadingZeros, Gray, Hamming, Morton, SatAdd}

-- how many arguments a kind has
unfoldable pub arity : HostKind → ℕ
arity Popcount = 1
arity Parity = 1
arity Reverse = 1
arity LeadingZeros = 1
arity Gray = 1
arity Hamming = 2
arity Morton = 2
arity SatAdd = 2

-- an input of a kind may have w bits: 1 to 12, and equally many for each argument
pub record TakesWidth (kind : HostKind) (w : ℕ) : Type 0 where
  pub some_bit : 1 ≤ w
  pub no_wider : w ≤ 12
  pub equal_parts : w % arity kind ≡ 0

-- how many bits the answer to an input of w bits has
unfoldable pub out_width : HostKind → ℕ → ℕ
out_width Popcount w = 4
out_width Parity w = 1
out_width Reverse w = w
out_width LeadingZeros w = 4
out_width Gray w = w
out_width Hamming w = 4
out_width Morton w = w
out_width SatAdd w = w / 2

-- the number of w bits whose bit i is `bit i`
unfoldable pub number_of_bits : ℕ → (ℕ → ℕ) → ℕ
number_of_bits zero bit = 0
number_of_bits (suc w) bit = bit w * 2 ^ w + number_of_bits w bit

-- the two arguments in an input of w bits, whose number is x: its high half, and its low half
unfoldable pub high_half : ℕ → ℕ → ℕ
high_half w x = x / 2 ^ (w / 2)

-- the lower half of the bits of an input
unfoldable pub low_half : ℕ → ℕ → ℕ
low_half w x = x % 2 ^ (w / 2)

-- bit i of two numbers that take turns: bit 2i is bit i of the first, and bit 2i + 1 is bit i of the second
unfoldable pub interleaved_bit : ℕ → ℕ → ℕ → ℕ
interleaved_bit x y i = bit_at (if nat_eq (i % 2) 0 then x else y) (i / 2)

-- the answer to an input of w bits, whose number is x
unfoldable pub answer : HostKind → ℕ → ℕ → ℕ
-- how many bits of x are 1
answer Popcount w x = count_ones x
-- that count modulo 2
answer Parity w x = count_ones x % 2
-- the number whose bit i is bit w - 1 - i of x
answer Reverse w x = number_of_bits w (λ i. bit_at x (w - 1 - i))
-- w less the number of binary digits of x, where 0 has none
answer LeadingZeros w x = count_leading_zeros w x
-- the bits in which x and its half, rounded down, differ
answer Gray w x = bit_xor x (x / 2)
-- in how many bits the two arguments differ
answer Hamming w x = count_ones (bit_xor (high_half w x) (low_half w x))
-- the bits of the two arguments in turn, the lowest of the first below the lowest of the second
answer Morton w x = number_of_bits w (interleaved_bit (high_half w x) (low_half w x))
-- the sum of the two arguments, or the greatest number of half the width where that is less
answer SatAdd w x = min (high_half w x + low_half w x) (2 ^ (w / 2) - 1)

-- the same of bit vectors
unfoldable pub value : HostKind → BitVector → BitVector
value kind x = record { width = out_width kind x.width; number = answer kind x.width x.number }
