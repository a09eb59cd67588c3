-- The module of a circuit, node by node. Contracts of private functions alone cite it.
use Rattle.std.specs.Prelude.{◌≡◌, ℕ, ◌+◌, ◌-◌, ◌==◌, if◌then◌else◌, min, ◌||◌, Bool, bytes_eq, None, Some, List, [], ◌∷◌, ◌++◌, codes, length, map, slice_index_or}
use Rattle.std.specs.List.{list_any}
use Rattle.kw_bits.specs.BitVector.{BitVector, zero_at}
use Rattle.kw_bits.specs.Operators as op
use Rattle.net_graph.specs.Nets.{width_at, widths_of}
use Rattle.net_graph.specs.Operators.{one_at}
use Rattle.net_graph.specs.declared.node.NetOne.{NetOne}
use Rattle.net_graph.specs.declared.node.NetOne.TheVariants as net_ones
use Rattle.net_graph.specs.declared.node.NetOp.{NetOp}
use Rattle.net_graph.specs.declared.node.NetOp.TheVariants as nodes
use Rattle.net_graph.specs.declared.node.NetTwo.{NetTwo}
use Rattle.net_graph.specs.declared.node.NetTwo.TheVariants as net_twos
use Rattle.circuit_eval.specs.declared.circuit.InputWire.{InputWire}
use Rattle.circuit_eval.specs.declared.circuit.OutputWire.{OutputWire}
use Rattle.circuit_eval.specs.declared.circuit.StateWire.{StateWire}
use Rattle.circuit_eval.specs.declared.circuit.Wires.{Wires}
use Rattle.verilog_text.specs.Names.{own_name, written}
use Rattle.verilog_text.specs.Translations.{names_of}
use Rattle.verilog_text.specs.declared.draft.Draft.{Draft}
use Rattle.verilog_text.specs.declared.module.Form.{Form}
use Rattle.verilog_text.specs.declared.module.Form.TheVariants.{One, Two, Choice, Slice, Extension}
use Rattle.verilog_text.specs.declared.module.Infix.TheVariants as twos
use Rattle.verilog_text.specs.declared.module.Module.{Module}
use Rattle.verilog_text.specs.declared.module.Operand.{Operand}
use Rattle.verilog_text.specs.declared.module.Operand.TheVariants.{Constant, Input, Register as Held, Wire as Inner}
use Rattle.verilog_text.specs.declared.module.Output.{Output}
use Rattle.verilog_text.specs.declared.module.Port.{Port}
use Rattle.verilog_text.specs.declared.module.Prefix.TheVariants as ones
use Rattle.verilog_text.specs.declared.module.Register.{Register}
use Rattle.verilog_text.specs.declared.nodes.Piece.{Piece}
use Rattle.verilog_text.specs.declared.nodes.Piece.TheVariants.{Same, Made}
use Rattle.verilog_text.specs.declared.verilog.Options.{Options}

-- ---- nodes

-- the operand of a node
abbrev pub operand_at : List Operand → ℕ → Operand
operand_at operands id = slice_index_or operands id (Inner 0)

-- the expression of an operator on one node of this width
unfoldable pub one_form : NetOne → ℕ → Operand → Form
one_form net_ones.Not width a = One ones.Not a
one_form net_ones.Neg width a = One ones.Neg a
one_form net_ones.Inc width a = Two twos.Add a (Constant (one_at width))
one_form net_ones.Dec width a = Two twos.Sub a (Constant (one_at width))
one_form net_ones.RedAnd width a = One ones.RedAnd a
one_form net_ones.RedOr width a = One ones.RedOr a
one_form net_ones.RedXor width a = One ones.RedXor a

-- an amount of a shift: a constant above its width is written as the width
abbrev pub least : BitVector → ℕ
least value = min value.number value.width

-- the amount of a shift
abbrev pub amount : Operand → Operand
amount (Constant value) = Constant (record { width = value.width; number = least value })
amount other = other

-- the expression of an operator on two nodes
unfoldable pub two_form : NetTwo → Operand → Operand → Form
two_form net_twos.And a b = Two twos.And a b
two_form net_twos.Or a b = Two twos.Or a b
two_form net_twos.Xor a b = Two twos.Xor a b
two_form net_twos.Nand a b = Two twos.Nand a b
two_form net_twos.Nor a b = Two twos.Nor a b
two_form net_twos.Xnor a b = Two twos.Xnor a b
two_form net_twos.Add a b = Two twos.Add a b
two_form net_twos.Sub a b = Two twos.Sub a b
two_form net_twos.Mul a b = Two twos.Mul a b
two_form net_twos.Sll a b = Two twos.ShiftLeft a (amount b)
two_form net_twos.Srl a b = Two twos.ShiftRight a (amount b)
two_form net_twos.Sra a b = Two twos.ShiftSigned a (amount b)
two_form net_twos.EqBits a b = Two twos.Equal a b
two_form net_twos.Neq a b = Two twos.Unequal a b
two_form net_twos.Ult a b = Two twos.Below a b
two_form net_twos.Ulte a b = Two twos.AtMost a b
two_form net_twos.Ugt a b = Two twos.Below b a
two_form net_twos.Ugte a b = Two twos.AtMost b a
two_form net_twos.Slt a b = Two twos.SignedBelow a b
two_form net_twos.Slte a b = Two twos.SignedAtMost a b
two_form net_twos.Sgt a b = Two twos.SignedBelow b a
two_form net_twos.Sgte a b = Two twos.SignedAtMost b a
two_form net_twos.Iff a b = Two twos.Equal a b
two_form net_twos.Implies a b = Two twos.AtMost a b
two_form net_twos.Concat a b = Two twos.Join a b

-- an operand that is a constant has this width
abbrev pub FitsConstant : Operand → ℕ → Type 0
FitsConstant (Constant value) width = value.width ≡ width
FitsConstant other width = Unit {0}

-- all constants among operands have the widths of their nodes
abbrev pub ConstantsFit : List ℕ → List Operand → Type 0
ConstantsFit widths operands = (id : ℕ) → FitsConstant (operand_at operands id) (width_at widths id)

-- some bits of an operand that has more; those of a constant are a constant
abbrev pub slice_piece : Operand → ℕ → ℕ → Piece
slice_piece (Constant value) upper lower = Same (Constant (op.slice value upper lower))
slice_piece other upper lower = Made (Slice other upper lower)

-- some bits of an operand of this width, which may be all
abbrev pub slice_of : Operand → ℕ → ℕ → ℕ → Piece
slice_of operand width upper lower =
    if upper - lower + 1 == width then Same operand else slice_piece operand upper lower

-- an operand with that many zeros above, and with that many copies of its highest bit
abbrev pub zext_of : Operand → ℕ → Piece
zext_of operand added =
    if added == 0 then Same operand else Made (Two twos.Join (Constant (zero_at added)) operand)

-- copies of the highest bit above an operand that has it
abbrev pub sext_piece : Operand → ℕ → ℕ → Piece
sext_piece (Constant value) width added = Same (Constant (op.sext value (width + added)))
sext_piece other width added = Made (Extension other (width - 1) added)

-- the same, where there may be none
abbrev pub sext_of : Operand → ℕ → ℕ → Piece
sext_of operand width added = if added == 0 then Same operand else sext_piece operand width added

-- a node is an operand that is there already, or a wire
unfoldable pub piece_of : List ℕ → List Operand → NetOp → Piece
piece_of widths operands (nodes.Const value) = Same (Constant value)
piece_of widths operands (nodes.Input number width) = Same (Input number)
piece_of widths operands (nodes.State number width) = Same (Held number)
piece_of widths operands (nodes.One operator a) = Made (one_form operator (width_at widths a) (operand_at operands a))
piece_of widths operands (nodes.Two operator a b) =
    Made (two_form operator (operand_at operands a) (operand_at operands b))
piece_of widths operands (nodes.Slice a upper lower) = slice_of (operand_at operands a) (width_at widths a) upper lower
piece_of widths operands (nodes.Uext a added) = zext_of (operand_at operands a) added
piece_of widths operands (nodes.Sext a added) = sext_of (operand_at operands a) (width_at widths a) added
piece_of widths operands (nodes.Ite condition a b) =
    Made (Choice (operand_at operands condition) (operand_at operands a) (operand_at operands b))

-- the wires and the operands of the nodes so far, with one node more of this width
abbrev pub with_piece : Draft → ℕ → Piece → Draft
with_piece d width (Same operand) = record { wires = d.wires; operands = d.operands ++ operand ∷ [] }
with_piece d width (Made form) =
    record {
      wires = d.wires ++ record { width = width; form = form } ∷ [];
      operands =
          d.operands ++ Inner (length d.wires) ∷ [];
    }

-- with all nodes
abbrev pub with_nodes : List ℕ → Draft → List NetOp → Draft
with_nodes widths d [] = d
with_nodes widths d (node ∷ more) =
    with_nodes widths (with_piece d (width_at widths (length d.operands)) (piece_of widths d.operands node)) more

-- no nodes
abbrev pub blank : Draft
blank = record { wires = []; operands = [] }

-- all nodes of a net
unfoldable pub draft_of : List NetOp → Draft
draft_of net = with_nodes (widths_of net) blank net

-- ---- modules

-- whether an input has a name
abbrev pub is_input : List InputWire → List ℕ → Bool
is_input inputs name = list_any (λ (wire : InputWire). bytes_eq wire.name name) inputs

-- whether an output has a name
abbrev pub is_output : List OutputWire → List ℕ → Bool
is_output outputs name = list_any (λ (wire : OutputWire). bytes_eq wire.name name) outputs

-- whether a state has a name
abbrev pub is_state : List StateWire → List ℕ → Bool
is_state states name = list_any (λ (wire : StateWire). bytes_eq wire.name name) states

-- whether one of them has it
abbrev pub has_name : List InputWire → List OutputWire → List StateWire → List ℕ → Bool
has_name inputs outputs states name = is_input inputs name || is_output outputs name || is_state states name

-- the input of a wire
abbrev pub input_of : InputWire → Port
input_of wire = record { name = written wire.name; width = wire.width }

-- the output of a wire
abbrev pub output_of : List Operand → OutputWire → Output
output_of operands wire = record { name = written wire.name; value = operand_at operands wire.id }

-- the register of a state
abbrev pub register_of : Bool → List Operand → StateWire → Register
register_of are_ports operands wire =
    record { name = written wire.name; is_port = are_ports; first = wire.first; next = operand_at operands wire.next }

-- the module of a circuit whose nodes have these wires and operands
unfoldable pub module_with : Wires → Draft → Options → Module
module_with c draft options =
    record {
      name = own_name (names_of c) (codes "koika");
      clock = own_name (names_of c) (codes "clk");
      reset = if options.reset then Some (own_name (names_of c) (codes "rst")) else None;
      inputs = map input_of c.inputs;
      outputs = map (output_of draft.operands) c.outputs;
      registers = map (register_of options.registers draft.operands) c.states;
      wires = draft.wires;
    }

-- the module of a circuit
abbrev pub module_of : Wires → Options → Module
module_of c options = module_with c (draft_of c.net) options
