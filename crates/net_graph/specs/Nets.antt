-- Nets: lists of operators on nodes, each node the number of an earlier operator. What operands an operator may have,
-- and the widths that nodes have one after another.
use Rattle.std.specs.Prelude.{◌≡◌, ◌≢◌, ℕ, ◌+◌, ◌-◌, ◌<◌, ◌≤◌, List, [], ◌∷◌, ◌++◌, length, Some, slice_get, slice_index_or, All, AllPairs, Contains}
use Rattle.kw_bits.specs.BitVector.{IsBits}
use Rattle.net_graph.specs.Operators.{one_width, two_width, TakesTwo}
use Rattle.net_graph.specs.declared.node.NetOp.{NetOp}
use Rattle.net_graph.specs.declared.node.NetOp.TheVariants.{Const, Input, State, One, Two, Slice, Uext, Sext, Ite}

-- the width of an earlier node
abbrev pub width_at : List ℕ → ℕ → ℕ
width_at widths id = slice_index_or widths id 0

-- the width that an operator has over nodes of these widths
abbrev pub op_width : List ℕ → NetOp → ℕ
op_width widths (Const value) = value.width
op_width widths (Input number width) = width
op_width widths (State number width) = width
op_width widths (One operator a) = one_width operator (width_at widths a)
op_width widths (Two operator a b) = two_width operator (width_at widths a) (width_at widths b)
op_width widths (Slice a upper lower) = upper - lower + 1
op_width widths (Uext a added) = width_at widths a + added
op_width widths (Sext a added) = width_at widths a + added
op_width widths (Ite condition a b) = width_at widths a

-- whether an operator may be over nodes of these widths: its operands are among them, and widths and bounds are right
abbrev pub Stands : List ℕ → NetOp → Type 0
Stands widths (Const value) = Unit {0}
Stands widths (Input number width) = (1 ≤ width) × (width ≤ 128)
Stands widths (State number width) = (1 ≤ width) × (width ≤ 128)
Stands widths (One operator a) = a < length widths
Stands widths (Two operator a b) = (a < length widths) × (b < length widths) × TakesTwo operator (width_at widths a) (width_at widths b)
Stands widths (Slice a upper lower) = (a < length widths) × (lower ≤ upper) × (upper < width_at widths a)
Stands widths (Uext a added) = (a < length widths) × (width_at widths a + added ≤ 128)
Stands widths (Sext a added) = (a < length widths) × (width_at widths a + added ≤ 128)
Stands widths (Ite condition a b) = (condition < length widths) × (a < length widths) × (b < length widths) × (width_at widths condition ≡ 1) × (width_at widths a ≡ width_at widths b)

-- what nodes have one after another, each by what those before it have
abbrev pub one_by_one : {A : Type 0} → (List A → NetOp → A) → List A → List NetOp → List A
one_by_one item before [] = before
one_by_one item before (op ∷ ops) = one_by_one item (before ++ item before op ∷ []) ops

-- the widths of a net's nodes
abbrev pub widths_of : List NetOp → List ℕ
widths_of ops = one_by_one op_width [] ops

-- each operator is over the nodes before it, after nodes of these widths
abbrev pub AllStand : List ℕ → List NetOp → Type 0
AllStand before [] = Unit {0}
AllStand before (op ∷ ops) = Stands before op × AllStand (before ++ op_width before op ∷ []) ops

-- a constant is a bit vector
abbrev pub HoldsBits : NetOp → Type 0
HoldsBits (Const value) = IsBits value
HoldsBits _ = Unit {0}

-- a net's operators come one after another, and no two of them are equal
pub record IsNet (ops : List NetOp) : Type 0 where
  pub stand : AllStand [] ops
  pub constants : All HoldsBits ops
  pub distinct : AllPairs (λ a b. a ≢ b) ops

-- a net after an operator was added, which has this number now: it went last, unless it stood there already
pub record Adds (old : List NetOp) (op : NetOp) (id : ℕ) (new : List NetOp) : Type 0 where
  pub at : slice_get new id ≡ Some op
  pub shared : Contains old op → new ≡ old
  pub last : ¬ Contains old op → new ≡ old ++ op ∷ []
