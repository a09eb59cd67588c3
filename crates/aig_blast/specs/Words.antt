-- Words of literals, bit 0 first.
use Rattle.std.specs.Prelude.{◌≡◌, ℕ, Bool, ◌&&◌, ◌||◌, List, map, All}
use Rattle.kw_bits.specs.BitVector.{BitVector}
use Rattle.kw_bits.specs.Operators as op
use Rattle.aig_blast.specs.BitLists.{xor, as_bits}
use Rattle.aig_blast.specs.Graphs.{value, IsLit, Keeps}
use Rattle.aig_blast.specs.Graphs.{Gates}
use Rattle.aig_blast.specs.declared.bitwise.Pair.{Pair}
use Rattle.aig_blast.specs.declared.bitwise.Pair.TheVariants.{And, Or, Xor}

-- the values of a word's literals
abbrev pub word : List Bool → Gates → List ℕ → List Bool
word inputs g lits = map (value inputs g) lits

-- all literals of a word stand in a graph
abbrev pub AreLits : Gates → List ℕ → Type 0
AreLits g lits = All (IsLit g) lits

-- a word was made whose value is a function of the inputs
pub record MakesWord (old new : Gates) (lits : List ℕ) (f : List Bool → List Bool) : Type 0 where
  pub keeps : Keeps old new
  pub are_lits : AreLits new lits
  pub has_value : (inputs : List Bool) → word inputs new lits ≡ f inputs

-- a gate on two literals
abbrev pub pair_value : Pair → Bool → Bool → Bool
pair_value And x y = x && y
pair_value Or x y = x || y
pair_value Xor x y = xor x y

-- a word's value as a bit vector
abbrev pub bits : List Bool → Gates → List ℕ → BitVector
bits inputs g lits = as_bits (word inputs g lits)

-- a word was made whose value is this bit vector of the inputs
pub record MakesBits (old new : Gates) (lits : List ℕ) (f : List Bool → BitVector) : Type 0 where
  pub keeps : Keeps old new
  pub are_lits : AreLits new lits
  pub has_bits : (inputs : List Bool) → bits inputs new lits ≡ f inputs

-- the operators that go bit by bit, and the reductions
abbrev pub pair_bits : Pair → BitVector → BitVector → BitVector
pair_bits And a b = op.and a b
pair_bits Or a b = op.or a b
pair_bits Xor a b = op.xor a b

abbrev pub reduced_bits : Pair → BitVector → BitVector
reduced_bits And a = op.redand a
reduced_bits Or a = op.redor a
reduced_bits Xor a = op.redxor a
