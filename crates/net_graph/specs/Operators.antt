-- The operators of nodes, as formulas over those on bit vectors, after BTOR2 (Niemetz et al., CAV 2018), and which
-- widths their operands and results have. Two operands are of one width, but for `concat`.
use Rattle.std.specs.Prelude.{◌≡◌, ℕ, ◌+◌, ◌≤◌, if◌then◌else◌, nat_eq}
use Rattle.kw_bits.specs.BitVector.{BitVector}
use Rattle.kw_bits.specs.Operators as op
use Rattle.net_graph.specs.declared.node.NetOne.{NetOne}
use Rattle.net_graph.specs.declared.node.NetOne.TheVariants.{Not, Neg, Inc, Dec, RedAnd, RedOr, RedXor}
use Rattle.net_graph.specs.declared.node.NetTwo.{NetTwo}
use Rattle.net_graph.specs.declared.node.NetTwo.TheVariants.{And, Or, Xor, Nand, Nor, Xnor, Add, Sub, Mul, Sll, Srl, Sra, EqBits, Neq, Ult, Ulte, Ugt, Ugte, Slt, Slte, Sgt, Sgte, Iff, Implies, Concat}

-- the number 1 at a width
abbrev pub one_at : ℕ → BitVector
one_at width = record { width = width; number = 1 }

-- the value of an operator on one node's
unfoldable pub one_value : NetOne → BitVector → BitVector
one_value Not a = op.not a
one_value Neg a = op.neg a
one_value Inc a = op.add a (one_at a.width)
one_value Dec a = op.sub a (one_at a.width)
one_value RedAnd a = op.redand a
one_value RedOr a = op.redor a
one_value RedXor a = op.redxor a

-- the value of an operator on two nodes'
unfoldable pub two_value : NetTwo → BitVector → BitVector → BitVector
two_value And a b = op.and a b
two_value Or a b = op.or a b
two_value Xor a b = op.xor a b
two_value Nand a b = op.not (op.and a b)
two_value Nor a b = op.not (op.or a b)
two_value Xnor a b = op.not (op.xor a b)
two_value Add a b = op.add a b
two_value Sub a b = op.sub a b
two_value Mul a b = op.mul a b
two_value Sll a b = op.sll a b
two_value Srl a b = op.srl a b
two_value Sra a b = op.sra a b
two_value EqBits a b = op.eq_bits a b
two_value Neq a b = op.not (op.eq_bits a b)
two_value Ult a b = op.ult a b
two_value Ulte a b = op.ulte a b
two_value Ugt a b = op.ult b a
two_value Ugte a b = op.ulte b a
two_value Slt a b = op.slt a b
two_value Slte a b = op.slte a b
two_value Sgt a b = op.slt b a
two_value Sgte a b = op.slte b a
two_value Iff a b = op.eq_bits a b
two_value Implies a b = op.or (op.not a) b
two_value Concat a b = op.concat a b

-- the operand with this many bits above, zeros or its highest bit
unfoldable pub uext_value : BitVector → ℕ → BitVector
uext_value a added = op.zext a (a.width + added)

unfoldable pub sext_value : BitVector → ℕ → BitVector
sext_value a added = op.sext a (a.width + added)

-- the first choice where the condition is 1, else the second
unfoldable pub ite_value : BitVector → BitVector → BitVector → BitVector
ite_value condition a b = if nat_eq condition.number 1 then a else b

-- the width of a result by its operand's
unfoldable pub one_width : NetOne → ℕ → ℕ
one_width Not a = a
one_width Neg a = a
one_width Inc a = a
one_width Dec a = a
one_width RedAnd a = 1
one_width RedOr a = 1
one_width RedXor a = 1

unfoldable pub two_width : NetTwo → ℕ → ℕ → ℕ
two_width And a b = a
two_width Or a b = a
two_width Xor a b = a
two_width Nand a b = a
two_width Nor a b = a
two_width Xnor a b = a
two_width Add a b = a
two_width Sub a b = a
two_width Mul a b = a
two_width Sll a b = a
two_width Srl a b = a
two_width Sra a b = a
two_width Concat a b = a + b
two_width _ a b = 1

-- which widths two operands may have
unfoldable pub TakesTwo : NetTwo → ℕ → ℕ → Type 0
TakesTwo Iff a b = (a ≡ 1) × (b ≡ 1)
TakesTwo Implies a b = (a ≡ 1) × (b ≡ 1)
TakesTwo Concat a b = a + b ≤ 128
TakesTwo _ a b = a ≡ b
