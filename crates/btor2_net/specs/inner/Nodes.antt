-- The nodes of a text's lines, one after another. Contracts of private functions alone cite it.
use Rattle.std.specs.Prelude.{◌≡◌, ℕ, ◌+◌, ◌^◌, ◌<◌, ◌≤◌, nat_eq, true, cond, List, Option, None, Some, MatchOption, option_map, slice_get, unwrap_or}
use Rattle.std.specs.Map.{update}
use Rattle.std.specs.Str.Parse.{digits_value}
use Rattle.net_graph.specs.Nets.{Adds}
use Rattle.net_graph.specs.declared.node.NetOne.{NetOne}
use Rattle.net_graph.specs.declared.node.NetOne.TheVariants as ones
use Rattle.net_graph.specs.declared.node.NetOp.{NetOp}
use Rattle.net_graph.specs.declared.node.NetOp.TheVariants.{Const, Input, State, One, Two, Slice, Uext, Sext, Ite}
use Rattle.net_graph.specs.declared.node.NetTwo.{NetTwo}
use Rattle.net_graph.specs.declared.node.NetTwo.TheVariants as twos
use Rattle.btor2_text.specs.Forms.{radix_of}
use Rattle.btor2_text.specs.declared.keyword.Keyword.{Keyword}
use Rattle.btor2_text.specs.declared.keyword.Keyword.TheVariants as keywords
use Rattle.btor2_text.specs.declared.kind.Base.{Base}
use Rattle.btor2_text.specs.declared.line.Argument.{Argument}
use Rattle.btor2_text.specs.declared.line.Line.{Line}
use Rattle.btor2_model.specs.Acceptance.{digits_of}
use Rattle.btor2_model.specs.Rules.{is_input, is_sort, is_state, rule_of}
use Rattle.btor2_model.specs.Run.{base_of, constant}
use Rattle.btor2_model.specs.Scope.{id_at, argument_number}
use Rattle.btor2_model.specs.SlowRun.{is_constant}
use Rattle.btor2_model.specs.Table.{value_in}
use Rattle.btor2_model.specs.declared.rule.FormRule.{FormRule}
use Rattle.btor2_model.specs.declared.rule.FormRule.TheVariants as forms
use Rattle.btor2_net.specs.declared.nodes.Nodes.{Nodes}

-- the operator on one node, or on two, that a keyword names, if it names one
abbrev pub one_of : Keyword → Option NetOne
one_of keywords.Not = Some ones.Not
one_of keywords.Neg = Some ones.Neg
one_of keywords.Inc = Some ones.Inc
one_of keywords.Dec = Some ones.Dec
one_of keywords.Redand = Some ones.RedAnd
one_of keywords.Redor = Some ones.RedOr
one_of keywords.Redxor = Some ones.RedXor
one_of other = None

abbrev pub two_of : Keyword → Option NetTwo
two_of keywords.And = Some twos.And
two_of keywords.Or = Some twos.Or
two_of keywords.Xor = Some twos.Xor
two_of keywords.Nand = Some twos.Nand
two_of keywords.Nor = Some twos.Nor
two_of keywords.Xnor = Some twos.Xnor
two_of keywords.Add = Some twos.Add
two_of keywords.Sub = Some twos.Sub
two_of keywords.Mul = Some twos.Mul
two_of keywords.Sll = Some twos.Sll
two_of keywords.Srl = Some twos.Srl
two_of keywords.Sra = Some twos.Sra
two_of keywords.Eq = Some twos.EqBits
two_of keywords.Neq = Some twos.Neq
two_of keywords.Ult = Some twos.Ult
two_of keywords.Ulte = Some twos.Ulte
two_of keywords.Ugt = Some twos.Ugt
two_of keywords.Ugte = Some twos.Ugte
two_of keywords.Slt = Some twos.Slt
two_of keywords.Slte = Some twos.Slte
two_of keywords.Sgt = Some twos.Sgt
two_of keywords.Sgte = Some twos.Sgte
two_of keywords.Iff = Some twos.Iff
two_of keywords.Implies = Some twos.Implies
two_of keywords.Concat = Some twos.Concat
two_of other = None

-- the lines so far: how many inputs and states there are, the widths of sorts, and the nodes of values
pub record Numbering : Type 0 where
  pub inputs : ℕ
  pub states : ℕ
  pub sorts : ℕ → Option ℕ
  pub nodes : ℕ → Option ℕ

abbrev pub numbering_of : Nodes → Numbering
numbering_of n = record { inputs = n.inputs; states = n.states; sorts = value_in n.sorts; nodes = value_in n.nodes }

-- the width of a line's sort
abbrev pub sort_at : Numbering → List Argument → ℕ
sort_at n given = unwrap_or (n.sorts (id_at given 0)) 0

-- the node that an argument names
abbrev pub node_at : Numbering → List Argument → ℕ → ℕ
node_at n given place = unwrap_or (n.nodes (id_at given place)) 0

abbrev pub number_at : List Argument → ℕ → ℕ
number_at given place = argument_number (slice_get given place)

-- the number that a constant's digits write
abbrev pub numeral_at : Keyword → List Argument → ℕ
numeral_at keyword given = digits_value (radix_of (base_of keyword)) (digits_of (slice_get given 1))

-- a node with that many bits more
abbrev pub extension : Keyword → ℕ → ℕ → NetOp
extension keywords.Sext a more = Sext a more
extension other a more = Uext a more

-- the operator of a line's node, if the line has one
abbrev pub op_by : Numbering → FormRule → Keyword → List Argument → Option NetOp
op_by n forms.Input keyword given = Some (Input n.inputs (sort_at n given))
op_by n forms.State keyword given = Some (State n.states (sort_at n given))
op_by n forms.Constant keyword given = Some (Const (constant keyword (sort_at n given)))
op_by n (forms.Numeral base) keyword given = Some (Const (record { width = sort_at n given; number = numeral_at keyword given }))
op_by n forms.Unary keyword given = option_map (λ operator. One operator (node_at n given 1)) (one_of keyword)
op_by n forms.Reduced keyword given = option_map (λ operator. One operator (node_at n given 1)) (one_of keyword)
op_by n forms.Binary keyword given = option_map (λ operator. Two operator (node_at n given 1) (node_at n given 2)) (two_of keyword)
op_by n forms.Compared keyword given = option_map (λ operator. Two operator (node_at n given 1) (node_at n given 2)) (two_of keyword)
op_by n forms.Boolean keyword given = option_map (λ operator. Two operator (node_at n given 1) (node_at n given 2)) (two_of keyword)
op_by n forms.Joined keyword given = option_map (λ operator. Two operator (node_at n given 1) (node_at n given 2)) (two_of keyword)
op_by n forms.Sliced keyword given = Some (Slice (node_at n given 1) (number_at given 2) (number_at given 3))
op_by n forms.Extended keyword given = Some (extension keyword (node_at n given 1) (number_at given 2))
op_by n forms.Chosen keyword given = Some (Ite (node_at n given 1) (node_at n given 2) (node_at n given 3))
op_by n other keyword given = None

abbrev pub op_of : Numbering → Line → Option NetOp
op_of n line = op_by n (rule_of line.keyword) line.keyword line.arguments

-- a constant's width is one of bit vectors, and its number is below 2 to that
pub record HasConstant (n : Numbering) (line : Line) : Type 0 where
  pub named : is_constant (rule_of line.keyword) ≡ true → (1 ≤ sort_at n line.arguments) × (sort_at n line.arguments ≤ 128)
  pub written : (base : Base) → rule_of line.keyword ≡ forms.Numeral base
      → (1 ≤ sort_at n line.arguments) × (sort_at n line.arguments ≤ 128) × (numeral_at line.keyword line.arguments < 2 ^ sort_at n line.arguments)

-- there are not too many inputs or states
pub record IsFew (n : Numbering) (line : Line) : Type 0 where
  pub inputs : is_input (rule_of line.keyword) ≡ true → n.inputs + 1 < 2 ^ 32
  pub states : is_state (rule_of line.keyword) ≡ true → n.states + 1 < 2 ^ 32

-- the node of a line, in a net before it and after it
abbrev pub AddsNode : Line → Numbering → (ℕ → Option ℕ) → (old new : List NetOp) → Type 0
AddsNode line n nodes old new = MatchOption (op_of n line) ((new ≡ old) × (nodes ≡ n.nodes)) (λ op. (id : ℕ) × Adds old op id new × (nodes ≡ update nat_eq n.nodes line.id (Some id)))

-- a net and its numbering, before a line and after it
pub record AddsLine (line : Line) (n m : Numbering) (old new : List NetOp) : Type 0 where
  pub inputs : m.inputs ≡ cond (is_input (rule_of line.keyword)) (n.inputs + 1) n.inputs
  pub states : m.states ≡ cond (is_state (rule_of line.keyword)) (n.states + 1) n.states
  pub sorts : m.sorts ≡ cond (is_sort (rule_of line.keyword)) (update nat_eq n.sorts line.id (Some (number_at line.arguments 1))) n.sorts
  pub node : AddsNode line n m.nodes old new
