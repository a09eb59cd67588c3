-- The operators on bit vectors, each as a formula on numbers, after SMT-LIB's theory of fixed-size bit
-- vectors and BTOR2 (CAV 2018). Two operands are of one width, but for `concat`. Quotients are rounded down.
use Rattle.std.specs.Prelude.{ℕ, ◌+◌, ◌-◌, ◌*◌, ◌/◌, ◌%◌, ◌^◌, min, Bool, if◌then◌else◌, nat_eq, nat_lt, nat_le, bit_and, bit_or, bit_xor, count_ones, ℤ, pos, ◌-ℤ◌, int_lt, int_le, unsigned_abs}
use Rattle.std.specs.Int.{int_div_euclid, int_rem_euclid}
use Rattle.kw_bits.specs.BitVector.{BitVector}

-- every bit turned
unfoldable pub not : BitVector → BitVector
not a = record { width = a.width; number = 2 ^ a.width - 1 - a.number }

-- what has to be added to reach 0, modulo 2 to the width
unfoldable pub neg : BitVector → BitVector
neg a = record { width = a.width; number = (2 ^ a.width - a.number) % 2 ^ a.width }

-- the bits that are 1 in both operands
unfoldable pub and : BitVector → BitVector → BitVector
and a b = record { width = a.width; number = bit_and a.number b.number }

-- the bits that are 1 in one operand or in both
unfoldable pub or : BitVector → BitVector → BitVector
or a b = record { width = a.width; number = bit_or a.number b.number }

-- the bits in which the operands differ
unfoldable pub xor : BitVector → BitVector → BitVector
xor a b = record { width = a.width; number = bit_xor a.number b.number }

-- the sum, modulo 2 to the width
unfoldable pub add : BitVector → BitVector → BitVector
add a b = record { width = a.width; number = (a.number + b.number) % 2 ^ a.width }

-- the difference, modulo 2 to the width
unfoldable pub sub : BitVector → BitVector → BitVector
sub a b = record { width = a.width; number = (a.number + (2 ^ a.width - b.number)) % 2 ^ a.width }

-- the product, modulo 2 to the width
unfoldable pub mul : BitVector → BitVector → BitVector
mul a b = record { width = a.width; number = a.number * b.number % 2 ^ a.width }

-- the number times 2 to the amount, modulo 2 to the width
unfoldable pub sll : BitVector → BitVector → BitVector
sll a b = record { width = a.width; number = a.number * 2 ^ b.number % 2 ^ a.width }

-- the number over 2 to the amount
unfoldable pub srl : BitVector → BitVector → BitVector
srl a b = record { width = a.width; number = a.number / 2 ^ b.number }

-- the signed reading: the number, less 2 to the width where the highest bit is 1
unfoldable pub signed : BitVector → ℤ
signed a = if nat_lt a.number (2 ^ (a.width - 1)) then pos a.number else (pos a.number -ℤ pos (2 ^ a.width))

-- what is left of an integer modulo 2 to the width, from 0 up
unfoldable pub residue : ℤ → ℕ → ℕ
residue z width = unsigned_abs (int_rem_euclid z (pos (2 ^ width)))

-- the signed reading over 2 to the amount, where an amount above the width counts as the width
unfoldable pub sra : BitVector → BitVector → BitVector
sra a b = record { width = a.width; number = residue (int_div_euclid (signed a) (pos (2 ^ min b.number a.width))) a.width }

-- one bit that answers a test
unfoldable pub flag : Bool → BitVector
flag holds = record { width = 1; number = if holds then 1 else 0 }

-- whether all bits are 1
unfoldable pub redand : BitVector → BitVector
redand a = flag (nat_eq a.number (2 ^ a.width - 1))

-- whether some bit is 1
unfoldable pub redor : BitVector → BitVector
redor a = flag (nat_lt 0 a.number)

-- how many bits are 1, modulo 2
unfoldable pub redxor : BitVector → BitVector
redxor a = record { width = 1; number = count_ones a.number % 2 }

-- whether the numbers are equal
unfoldable pub eq_bits : BitVector → BitVector → BitVector
eq_bits a b = flag (nat_eq a.number b.number)

-- whether the first number is below the second, and whether it is at most the second
unfoldable pub ult : BitVector → BitVector → BitVector
ult a b = flag (nat_lt a.number b.number)

-- unsigned, less or equal
unfoldable pub ulte : BitVector → BitVector → BitVector
ulte a b = flag (nat_le a.number b.number)

-- the same of the signed readings
unfoldable pub slt : BitVector → BitVector → BitVector
slt a b = flag (int_lt (signed a) (signed b))

-- signed, less or equal
unfoldable pub slte : BitVector → BitVector → BitVector
slte a b = flag (int_le (signed a) (signed b))

-- the bits of the first operand above those of the second
unfoldable pub concat : BitVector → BitVector → BitVector
concat a b = record { width = a.width + b.width; number = a.number * 2 ^ b.width + b.number }

-- the bits from `lower` to `upper`, both included
unfoldable pub slice : BitVector → ℕ → ℕ → BitVector
slice a upper lower = record { width = upper - lower + 1; number = a.number / 2 ^ lower % 2 ^ (upper - lower + 1) }

-- the same number at a greater width
unfoldable pub zext : BitVector → ℕ → BitVector
zext a width = record { width = width; number = a.number }

-- the same signed reading at a greater width
unfoldable pub sext : BitVector → ℕ → BitVector
sext a width = record { width = width; number = residue (signed a) width }
