-- What holds of the operators at every width: that they answer bit vectors of the width that is due, and how
-- they undo one another.
use Rattle.std.specs.Prelude.{◌≡◌, ℕ, ◌+◌, ◌-◌, ◌*◌, ◌^◌, ◌<◌, ◌≤◌, Bool, not, ◌&&◌, ◌||◌, nat_eq, bit_xor, count_ones}
use Rattle.std.specs.Int.{bit_at}
use Rattle.kw_bits.specs.BitVector.{BitVector, IsBits}
use Rattle.kw_bits.specs.Operators as op
use Rattle.kw_bits.specs.Host as host
use Rattle.kw_bits.specs.declared.host.HostKind.{HostKind}
use Rattle.kw_bits.specs.declared.host.HostKind.TheVariants.{Reverse, LeadingZeros, Hamming, Morton, SatAdd}

-- the bit vector is one of this width
abbrev pub HasWidth : BitVector → ℕ → Type 0
HasWidth a width = IsBits a × (a.width ≡ width)

-- one operand makes a bit vector of its width, or one bit
abbrev pub KeepsWidth : (BitVector → BitVector) → Type 0
KeepsWidth f = (a : BitVector) → IsBits a → HasWidth (f a) a.width

abbrev pub MakesOneBit : (BitVector → BitVector) → Type 0
MakesOneBit f = (a : BitVector) → IsBits a → HasWidth (f a) 1

-- two operands of one width make a bit vector of that width, or one bit
abbrev pub KeepsCommonWidth : (BitVector → BitVector → BitVector) → Type 0
KeepsCommonWidth f = (a b : BitVector) → IsBits a → IsBits b → a.width ≡ b.width → HasWidth (f a b) a.width

abbrev pub ComparesToOneBit : (BitVector → BitVector → BitVector) → Type 0
ComparesToOneBit f = (a b : BitVector) → IsBits a → IsBits b → a.width ≡ b.width → HasWidth (f a b) 1

-- an operand is extended to each width from its own to 128
abbrev pub Extends : (BitVector → ℕ → BitVector) → Type 0
Extends f = (a : BitVector) (width : ℕ) → IsBits a → a.width ≤ width → width ≤ 128 → HasWidth (f a width) width

-- two operands that fit are joined
abbrev pub Joins : Type 0
Joins = (a b : BitVector) → IsBits a → IsBits b → a.width + b.width ≤ 128 → HasWidth (op.concat a b) (a.width + b.width)

-- a slice has as many bits as its bounds say
abbrev pub Slices : Type 0
Slices = (a : BitVector) (upper lower : ℕ) → IsBits a → lower ≤ upper → upper < a.width → HasWidth (op.slice a upper lower) (upper - lower + 1)

-- a host function answers a bit vector of its output width
abbrev pub HostAnswers : Type 0
HostAnswers = (kind : HostKind) (x : BitVector) → IsBits x → host.TakesWidth kind x.width → HasWidth (host.value kind x) (host.out_width kind x.width)

-- the two parts of what was joined are the operands
abbrev pub SliceUndoesConcat : Type 0
SliceUndoesConcat = (a b : BitVector) → IsBits a → IsBits b → (op.slice (op.concat a b) (a.width + b.width - 1) b.width ≡ a) × (op.slice (op.concat a b) (b.width - 1) 0 ≡ b)

-- two slices that meet join to the slice of both, and the slice of all bits is the bit vector
abbrev pub ConcatUndoesSlice : Type 0
ConcatUndoesSlice = (a : BitVector) (upper middle lower : ℕ) → lower ≤ middle → middle < upper → op.concat (op.slice a upper (middle + 1)) (op.slice a middle lower) ≡ op.slice a upper lower

abbrev pub WholeSlice : Type 0
WholeSlice = (a : BitVector) → IsBits a → op.slice a (a.width - 1) 0 ≡ a

-- the low bits of an extension are the operand
abbrev pub SliceUndoes : (BitVector → ℕ → BitVector) → Type 0
SliceUndoes f = (a : BitVector) (width : ℕ) → IsBits a → a.width ≤ width → op.slice (f a width) (a.width - 1) 0 ≡ a

-- to take away what was added gives the operand back
abbrev pub SubUndoesAdd : Type 0
SubUndoesAdd = (a b : BitVector) → IsBits a → IsBits b → a.width ≡ b.width → op.sub (op.add a b) b ≡ a

-- an extension by the sign keeps the signed reading
abbrev pub SextKeepsSigned : Type 0
SextKeepsSigned = (a : BitVector) (width : ℕ) → IsBits a → a.width ≤ width → op.signed (op.sext a width) ≡ op.signed a

-- a bit vector of width 1 answers whether its number is 1
abbrev pub OneBitIsFlag : Type 0
OneBitIsFlag = (a : BitVector) → IsBits a → a.width ≡ 1 → a ≡ op.flag (nat_eq a.number 1)

-- on one bit the operators are those of truth values
abbrev pub FlagLogic : Type 0
FlagLogic = (x y : Bool) → (op.not (op.flag x) ≡ op.flag (not x)) × (op.and (op.flag x) (op.flag y) ≡ op.flag (x && y)) × (op.or (op.flag x) (op.flag y) ≡ op.flag (x || y))

-- a reversed number has each bit at the other end
abbrev pub ReverseTurnsBits : Type 0
ReverseTurnsBits = (w x i : ℕ) → i < w → bit_at (host.answer Reverse w x) i ≡ bit_at x (w - 1 - i)

-- the leading zeros and the binary digits make up the width. A number below 2 to some power, and not below half of
-- it, has that power's count of digits, and 0 has none
abbrev pub LeadingZerosAndDigits : Type 0
LeadingZerosAndDigits = (w x digits : ℕ) → x < 2 ^ w → x < 2 ^ digits → 2 ^ digits ≤ 2 * x + 1 → host.answer LeadingZeros w x + digits ≡ w

-- two arguments of h bits, the second below 2 to the h: in how many bits they differ
abbrev pub HammingCountsDifferences : Type 0
HammingCountsDifferences = (h x y : ℕ) → y < 2 ^ h → host.answer Hamming (2 * h) (x * 2 ^ h + y) ≡ count_ones (bit_xor x y)

-- bit 2i of the answer is bit i of the first, and bit 2i + 1 is bit i of the second
abbrev pub MortonTakesTurns : Type 0
MortonTakesTurns = (h x y i : ℕ) → y < 2 ^ h → i < h → (bit_at (host.answer Morton (2 * h) (x * 2 ^ h + y)) (2 * i) ≡ bit_at x i) × (bit_at (host.answer Morton (2 * h) (x * 2 ^ h + y)) (2 * i + 1) ≡ bit_at y i)

-- the sum where it has at most h bits, and else the greatest number of h bits
abbrev pub SatAddSaturates : Type 0
SatAddSaturates = (h x y : ℕ) → y < 2 ^ h → (x + y < 2 ^ h → host.answer SatAdd (2 * h) (x * 2 ^ h + y) ≡ x + y) × (2 ^ h ≤ x + y → host.answer SatAdd (2 * h) (x * 2 ^ h + y) ≡ 2 ^ h - 1)
