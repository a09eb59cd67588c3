-- A net that is laid out to run on words of the machine, a step for each node. A node of up to 64 bits has its value's number
-- as its word, and the values of wider nodes are kept apart. States are kept likewise.
use Rattle.std.specs.Prelude.{◌≡◌, ◌⊎◌, ℕ, ◌+◌, ◌-◌, ◌<◌, ◌≤◌, List, [], ◌∷◌, if◌then◌else◌, length, nat_le, Some, slice_get, slice_index_or}
use Rattle.kw_bits.specs.BitVector.{BitVector}
use Rattle.net_graph.specs.Nets.{IsNet, width_at, widths_of}
use Rattle.net_graph.specs.Values.{value_at}
use Rattle.net_graph.specs.declared.node.NetOne.TheVariants.{Not}
use Rattle.net_graph.specs.declared.node.NetTwo.TheVariants.{And, Or, Xor, Add, Sub, Mul, EqBits, Neq, Ult, Ulte, Concat}
use Rattle.net_graph.specs.declared.node.NetTwo.{NetTwo}
use Rattle.net_graph.specs.declared.node.NetOp.{NetOp}
use Rattle.net_graph.specs.declared.node.NetOp.TheVariants.{Const, Input, State, One, Two, Slice, Uext, Sext, Ite}
use Rattle.circuit_eval.specs.Circuits.{AreBits}
use Rattle.circuit_eval.specs.Words.{IsMask}
use Rattle.circuit_eval.specs.declared.program.Step.{Step}
use Rattle.circuit_eval.specs.declared.program.Step.TheVariants.{Constant, TakeInput, TakeState, Copy, Invert, Both, Either, OneOf, Sum, Difference, Product, Equal, Unequal, Below, AtMost, Join, Cut, Choose, Wide, Other}

-- the width of a node
abbrev pub node_width : List NetOp → ℕ → ℕ
node_width net id = width_at (widths_of net) id

-- a node has up to 64 bits
abbrev pub IsNarrow : List NetOp → ℕ → Type 0
IsNarrow net id = node_width net id ≤ 64

-- a node has an operator
abbrev pub Has : List NetOp → ℕ → NetOp → Type 0
Has net id op = slice_get net id ≡ Some op

-- a node has an operator on two nodes of one width of up to 64 bits
abbrev pub HasNarrow : List NetOp → ℕ → NetTwo → (a b : ℕ) → Type 0
HasNarrow net id operator a b = Has net id (Two operator a b) × IsNarrow net a

-- no step makes the word of an operator on two nodes, the first of up to 64 bits
abbrev pub HasNoWord : List NetOp → NetTwo → (a b : ℕ) → Type 0
HasNoWord net And a b = ⊥
HasNoWord net Or a b = ⊥
HasNoWord net Xor a b = ⊥
HasNoWord net Add a b = ⊥
HasNoWord net Sub a b = ⊥
HasNoWord net Mul a b = ⊥
HasNoWord net EqBits a b = ⊥
HasNoWord net Neq a b = ⊥
HasNoWord net Ult a b = ⊥
HasNoWord net Ulte a b = ⊥
HasNoWord net Concat a b = 64 < node_width net a + node_width net b
HasNoWord net operator a b = Unit {0}

-- an operator has no step of its own
abbrev pub HasNoStep : List NetOp → NetOp → Type 0
HasNoStep net (Const value) = 64 < value.width
HasNoStep net (Input number width) = 64 < width
HasNoStep net (State number width) = 64 < width
HasNoStep net (One Not a) = 64 < node_width net a
HasNoStep net (One operator a) = Unit {0}
HasNoStep net (Two operator a b) = (64 < node_width net a × IsNarrow net b) ⊎ (IsNarrow net a × HasNoWord net operator a b)
HasNoStep net (Slice a upper lower) = 64 < node_width net a
HasNoStep net (Uext a added) = 64 < node_width net a + added
HasNoStep net (Sext a added) = Unit {0}
HasNoStep net (Ite condition a b) = 64 < node_width net a

-- a step makes the word of a node; one on wide operands finds them where they are kept; the last is for what has no step
abbrev pub Makes : List NetOp → ℕ → Step → Type 0
Makes net id (Constant word) = (value : BitVector) × Has net id (Const value) × (value.width ≤ 64) × (value.number ≡ word)
Makes net id (TakeInput number) = (width : ℕ) × Has net id (Input number width) × (width ≤ 64)
Makes net id (TakeState number) = (width : ℕ) × Has net id (State number width) × (width ≤ 64)
Makes net id (Copy a) = (added : ℕ) × Has net id (Uext a added) × (node_width net a + added ≤ 64)
Makes net id (Invert a mask) = Has net id (One Not a) × IsNarrow net a × IsMask mask (node_width net a)
Makes net id (Both a b) = HasNarrow net id And a b
Makes net id (Either a b) = HasNarrow net id Or a b
Makes net id (OneOf a b) = HasNarrow net id Xor a b
Makes net id (Sum a b mask) = HasNarrow net id Add a b × IsMask mask (node_width net a)
Makes net id (Difference a b mask) = HasNarrow net id Sub a b × IsMask mask (node_width net a)
Makes net id (Product a b mask) = HasNarrow net id Mul a b × IsMask mask (node_width net a)
Makes net id (Equal a b) = HasNarrow net id EqBits a b
Makes net id (Unequal a b) = HasNarrow net id Neq a b
Makes net id (Below a b) = HasNarrow net id Ult a b
Makes net id (AtMost a b) = HasNarrow net id Ulte a b
Makes net id (Join a b shift) = Has net id (Two Concat a b) × (node_width net a + node_width net b ≤ 64) × (shift ≡ node_width net b)
Makes net id (Cut a lower mask) = (upper : ℕ) × Has net id (Slice a upper lower) × IsNarrow net a × IsMask mask (upper - lower + 1)
Makes net id (Choose condition a b) = Has net id (Ite condition a b) × IsNarrow net a
Makes net id (Wide operator a b) = Has net id (Two operator a b) × (64 < node_width net a) × (64 < node_width net b)
Makes net id Other = (op : NetOp) × Has net id op × HasNoStep net op

-- a step for each node of a net
pub record IsLaidOut (net : List NetOp) (steps : List Step) : Type 0 where
  pub valid : IsNet net
  pub count : length steps ≡ length net
  pub makes : (id : ℕ) (step : Step) → slice_get steps id ≡ Some step → Makes net id step

-- there is a word for each node, and a place for the value of each wide one
pub record HasRoom (net : List NetOp) (words : List ℕ) (wides : List BitVector) : Type 0 where
  pub each : length words ≡ length net
  pub wide : (id : ℕ) → id < length net → 64 < node_width net id → id < length wides

-- the number at a place
abbrev pub word_at : List ℕ → ℕ → ℕ
word_at words id = slice_index_or words id 0

-- the value that is kept as a word where it has up to 64 bits, and as itself where it has more
abbrev pub kept_value : (width word : ℕ) → BitVector → BitVector
kept_value width word wide = if nat_le width 64 then record { width = width; number = word } else wide

-- the values of these widths that are kept from a place on
unfoldable pub kept_from : (widths words : List ℕ) → List BitVector → ℕ → List BitVector
kept_from [] words wides place = []
kept_from (width ∷ widths) words wides place =
    kept_value width (word_at words place) (value_at wides place) ∷ kept_from widths words wides (place + 1)

-- values of these widths are kept: a word for each, and in a list of at most as many a place for each wide one
pub record AreKept (widths words : List ℕ) (wides : List BitVector) : Type 0 where
  pub fit : AreBits (kept_from widths words wides 0) widths
  pub each : length words ≡ length widths
  pub few : length wides ≤ length widths
  pub wide : (place : ℕ) → place < length widths → 64 < width_at widths place → place < length wides
