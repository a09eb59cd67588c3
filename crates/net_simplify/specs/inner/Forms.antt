-- What a node can be in place of an operator: a node that is there already, a constant, or a simpler operator. It
-- serves private functions alone.
use Rattle.std.specs.Prelude.{◌≡◌, ℕ, ◌<◌, Bool, true, false, List, length, All, IfSome, Option}
use Rattle.kw_bits.specs.BitVector.{BitVector, IsBits}
use Rattle.kw_bits.specs.Operators as op
use Rattle.net_graph.specs.Laws.{Feeds}
use Rattle.net_graph.specs.Nets.{IsNet, op_width, Stands, width_at, widths_of}
use Rattle.net_graph.specs.Operators.{two_value, two_width, TakesTwo}
use Rattle.net_graph.specs.Values.{node_value, op_value, Reads, Sources, value_at, values_of}
use Rattle.net_graph.specs.declared.node.NetOp.{NetOp}
use Rattle.net_graph.specs.declared.node.NetOp.TheVariants.{Two}
use Rattle.net_graph.specs.declared.node.NetOne.{NetOne}
use Rattle.net_graph.specs.declared.node.NetOne.TheVariants.{RedAnd, RedOr, RedXor}
use Rattle.net_graph.specs.declared.node.NetTwo.{NetTwo}
use Rattle.net_graph.specs.declared.node.NetTwo.TheVariants.{And, Or}
use Rattle.circuit_eval.specs.Tidy.{IsNeeded, IsOpen}
use Rattle.net_simplify.specs.inner.Identities.{IsDistinguishing}
use Rattle.net_simplify.specs.declared.form.Form.{Form}
use Rattle.net_simplify.specs.declared.form.Form.TheVariants.{Node, Constant, Operator}

-- a net whose operators are such as a tidy circuit may have
pub record IsLean (net : List NetOp) : Type 0 where
  pub is_net : IsNet net
  pub are_open : All (IsOpen net) net
  pub needed : All (IsNeeded net) net

-- the width and the value of a form over nodes of these
abbrev pub form_width : List ℕ → Form → ℕ
form_width widths (Node id) = width_at widths id
form_width widths (Constant value) = value.width
form_width widths (Operator op) = op_width widths op

abbrev pub form_value : Sources → List BitVector → Form → BitVector
form_value s values (Node id) = value_at values id
form_value s values (Constant value) = value
form_value s values (Operator op) = op_value s values op

-- a form reads only inputs and states that there are
abbrev pub FormReads : List ℕ → List ℕ → Form → Type 0
FormReads inputs states (Operator op) = Reads inputs states op
FormReads inputs states form = Unit {0}

-- a form has the width and the value of an operator, and reads nothing else from outside
pub record Equals (net : List NetOp) (op : NetOp) (form : Form) : Type 0 where
  pub width : form_width (widths_of net) form ≡ op_width (widths_of net) op
  pub value : (s : Sources) → Feeds s net → form_value s (values_of s net) form ≡ op_value s (values_of s net) op
  pub reads : (inputs states : List ℕ) → Reads inputs states op → FormReads inputs states form

-- a form can be had in a net that stays lean
abbrev pub FormStands : List NetOp → Form → Type 0
FormStands net (Node id) = id < length net
FormStands net (Constant value) = Unit {0}
FormStands net (Operator op) = Stands (widths_of net) op × IsOpen net op × IsNeeded net op

-- what an operator can be in a lean net
pub record IsForm (net : List NetOp) (op : NetOp) (form : Form) : Type 0 where
  pub stands : FormStands net form
  pub equals : Equals net op form

-- an operator that says what another doesn't, on the same operands
pub record IsOpposite (operator other : NetTwo) : Type 0 where
  pub takes : (a b : ℕ) → TakesTwo operator a b → TakesTwo other a b
  pub width : (a b : ℕ) → two_width other a b ≡ two_width operator a b
  pub value : (x y : BitVector) → IsBits x → IsBits y → TakesTwo operator x.width y.width → two_value other x y ≡ op.not (two_value operator x y)
  pub other_needs : IsDistinguishing other

-- it is on the operands of another
pub record Turns (op turned : NetOp) : Type 0 where
  pub operator : NetTwo
  pub other : NetTwo
  pub first : ℕ
  pub second : ℕ
  pub is : op ≡ Two operator first second
  pub turned_is : turned ≡ Two other first second
  pub opposite : IsOpposite operator other

-- the operator makes one bit of all
abbrev pub IsReduction : NetOne → Type 0
IsReduction RedAnd = Unit {0}
IsReduction RedOr = Unit {0}
IsReduction RedXor = Unit {0}
IsReduction _ = ⊥

-- a node has the width of another, and its value where this holds of a condition's
pub record IsNodeIf (net : List NetOp) (holds : BitVector → Type 0) (condition id other : ℕ) : Type 0 where
  pub stands : other < length net
  pub width : width_at (widths_of net) other ≡ width_at (widths_of net) id
  pub value : (s : Sources) → Feeds s net → holds (node_value s net condition) → node_value s net other ≡ node_value s net id

-- the value of an operator on a bit vector of this width and the same with its bits turned
pub record IsOfOpposites (operator : NetTwo) (width : ℕ) (result : BitVector) : Type 0 where
  pub as_wide : (b : ℕ) → TakesTwo operator width b → result.width ≡ two_width operator width b
  pub value : (x : BitVector) → IsBits x → x.width ≡ width → two_value operator x (op.not x) ≡ result

-- two nodes of one width
pub record Alike (net : List NetOp) (p q : ℕ) : Type 0 where
  pub first : p < length net
  pub second : q < length net
  pub width : width_at (widths_of net) p ≡ width_at (widths_of net) q

-- a node that is all that is left of an operator on two others: of an `or` of two `and`s, and of an `and` of two `or`s
pub record IsCommon (net : List NetOp) (p q r t id : ℕ) : Type 0 where
  pub stands : id < length net
  pub width : width_at (widths_of net) id ≡ width_at (widths_of net) p
  pub of_ands : (s : Sources) → Feeds s net → op.or (op.and (node_value s net p) (node_value s net q)) (op.and (node_value s net r) (node_value s net t)) ≡ node_value s net id
  pub of_ors : (s : Sources) → Feeds s net → op.and (op.or (node_value s net p) (node_value s net q)) (op.or (node_value s net r) (node_value s net t)) ≡ node_value s net id

-- ---- bits that decide others

-- a bit vector is the one bit that is known, if one is
abbrev pub IsKnownBit : Option Bool → BitVector → Type 0
IsKnownBit known x = IfSome known (λ (b : Bool). x ≡ op.flag b)

-- wherever the first node's value is this bit, this is known of the second's
abbrev pub Tells : List NetOp → ℕ → Bool → ℕ → Option Bool → Type 0
Tells net bit value id known = (s : Sources) → Feeds s net → node_value s net bit ≡ op.flag value → IsKnownBit known (node_value s net id)

-- the bit that leaves the other operand of an operator as it is
abbrev pub IsUnit : NetTwo → Bool → Type 0
IsUnit And unit = unit ≡ true
IsUnit Or unit = unit ≡ false
IsUnit _ unit = ⊥
