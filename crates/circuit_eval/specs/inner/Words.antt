-- What private functions alone cite of this crate's `Words`.
use Rattle.std.specs.Prelude.{◌≡◌, ℕ, ◌+◌, ◌-◌, ◌<◌, ◌≤◌}
use Rattle.kw_bits.specs.BitVector.{BitVector, IsBits}
use Rattle.kw_bits.specs.Operators as op
use Rattle.net_graph.specs.Operators.{ite_value}
use Rattle.circuit_eval.specs.Words.{IsMask}

-- the word is the value of an operator on one bit vector, whose word is a
abbrev pub OneWord : (BitVector → BitVector) → (a mask word : ℕ) → Type 0
OneWord f a mask word = (x : BitVector) → IsBits x → x.width ≤ 64 → x.number ≡ a → IsMask mask x.width → word ≡ (f x).number

-- the word is the value of an operator on two bit vectors of one width, whose words are a and b
abbrev pub TwoWord : (BitVector → BitVector → BitVector) → (a b word : ℕ) → Type 0
TwoWord f a b word = (x y : BitVector) → IsBits x → IsBits y → x.width ≡ y.width → x.number ≡ a → y.number ≡ b → word ≡ (f x y).number

-- the same where the operator needs the mask of the width
abbrev pub MaskedWord : (BitVector → BitVector → BitVector) → (a b mask word : ℕ) → Type 0
MaskedWord f a b mask word = (x y : BitVector) → IsBits x → IsBits y → x.width ≡ y.width → x.width ≤ 64 → x.number ≡ a → y.number ≡ b → IsMask mask x.width → word ≡ (f x y).number

-- the word is two bit vectors joined, the lower one as wide as the shift
abbrev pub JoinedWord : (high low shift word : ℕ) → Type 0
JoinedWord high low shift word = (x y : BitVector) → IsBits x → IsBits y → x.width + y.width ≤ 64 → x.number ≡ high → y.number ≡ low → shift ≡ y.width → word ≡ (op.concat x y).number

-- the word is the slice of a bit vector from a bit on, with the mask of the slice's width
abbrev pub SlicedWord : (a lower mask word : ℕ) → Type 0
SlicedWord a lower mask word = (x : BitVector) (upper : ℕ) → IsBits x → x.width ≤ 64 → lower ≤ upper → upper < x.width → x.number ≡ a → IsMask mask (upper - lower + 1) → word ≡ (op.slice x upper lower).number

-- the word is the choice between two bit vectors, whose words are a and b
abbrev pub ChosenWord : (condition a b word : ℕ) → Type 0
ChosenWord condition a b word = (c x y : BitVector) → c.number ≡ condition → x.number ≡ a → y.number ≡ b → word ≡ (ite_value c x y).number
