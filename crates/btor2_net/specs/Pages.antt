-- The lines that a circuit is written as. Ids are 1, 2, 3 and so on. A sort is before the first line that has its
-- width. Each state is a constant that has its first value, the state and its `init`; then come the inputs, a line
-- for each node that is a constant or an operator, each state's `next`, and the outputs.
use Rattle.std.specs.Prelude.{ℕ, ◌+◌, nat_eq, List, [], ◌∷◌, ◌++◌, Option, None, Some, length, map, slice_index_or, unwrap_or, decimal}
use Rattle.std.specs.Map.{update}
use Rattle.kw_base.specs.Place.{capped}
use Rattle.kw_bits.specs.BitVector.{BitVector}
use Rattle.net_graph.specs.Nets.{width_at, widths_of}
use Rattle.net_graph.specs.declared.node.NetOne.{NetOne}
use Rattle.net_graph.specs.declared.node.NetOne.TheVariants as ones
use Rattle.net_graph.specs.declared.node.NetOp.{NetOp}
use Rattle.net_graph.specs.declared.node.NetOp.TheVariants.{Const, Input, State, One, Two, Slice, Uext, Sext, Ite}
use Rattle.net_graph.specs.declared.node.NetTwo.{NetTwo}
use Rattle.net_graph.specs.declared.node.NetTwo.TheVariants as twos
use Rattle.circuit_eval.specs.declared.circuit.InputWire.{InputWire}
use Rattle.circuit_eval.specs.declared.circuit.OutputWire.{OutputWire}
use Rattle.circuit_eval.specs.declared.circuit.StateWire.{StateWire}
use Rattle.circuit_eval.specs.declared.circuit.Wires.{Wires}
use Rattle.btor2_text.specs.declared.keyword.Keyword.{Keyword}
use Rattle.btor2_text.specs.declared.keyword.Keyword.TheVariants as keywords
use Rattle.btor2_text.specs.declared.line.Argument.{Argument}
use Rattle.btor2_text.specs.declared.line.Argument.TheVariants as arguments
use Rattle.btor2_text.specs.declared.line.Line.{Line}

-- the keyword of an operator on one node, and on two
abbrev pub keyword_of_one : NetOne → Keyword
keyword_of_one ones.Not = keywords.Not
keyword_of_one ones.Neg = keywords.Neg
keyword_of_one ones.Inc = keywords.Inc
keyword_of_one ones.Dec = keywords.Dec
keyword_of_one ones.RedAnd = keywords.Redand
keyword_of_one ones.RedOr = keywords.Redor
keyword_of_one ones.RedXor = keywords.Redxor

abbrev pub keyword_of_two : NetTwo → Keyword
keyword_of_two twos.And = keywords.And
keyword_of_two twos.Or = keywords.Or
keyword_of_two twos.Xor = keywords.Xor
keyword_of_two twos.Nand = keywords.Nand
keyword_of_two twos.Nor = keywords.Nor
keyword_of_two twos.Xnor = keywords.Xnor
keyword_of_two twos.Add = keywords.Add
keyword_of_two twos.Sub = keywords.Sub
keyword_of_two twos.Mul = keywords.Mul
keyword_of_two twos.Sll = keywords.Sll
keyword_of_two twos.Srl = keywords.Srl
keyword_of_two twos.Sra = keywords.Sra
keyword_of_two twos.EqBits = keywords.Eq
keyword_of_two twos.Neq = keywords.Neq
keyword_of_two twos.Ult = keywords.Ult
keyword_of_two twos.Ulte = keywords.Ulte
keyword_of_two twos.Ugt = keywords.Ugt
keyword_of_two twos.Ugte = keywords.Ugte
keyword_of_two twos.Slt = keywords.Slt
keyword_of_two twos.Slte = keywords.Slte
keyword_of_two twos.Sgt = keywords.Sgt
keyword_of_two twos.Sgte = keywords.Sgte
keyword_of_two twos.Iff = keywords.Iff
keyword_of_two twos.Implies = keywords.Implies
keyword_of_two twos.Concat = keywords.Concat

-- the lines so far, and the ids of the sorts among them by their widths
pub record Page : Type 0 where
  pub lines : List Line
  pub sorts : ℕ → Option ℕ

-- the page before all lines
abbrev pub blank : Page
blank = record { lines = []; sorts = λ _. None }

-- the id of the next line
abbrev pub next_id : Page → ℕ
next_id p = length p.lines + 1

-- the next line
abbrev pub line_on : Page → Keyword → List Argument → Option (List ℕ) → Line
line_on p keyword given symbol = record { id = next_id p; keyword = keyword; arguments = given; symbol = symbol; number = capped (next_id p) }

-- a page with one more line
abbrev pub put : Page → Keyword → List Argument → Option (List ℕ) → Page
put p keyword given symbol = record { lines = p.lines ++ line_on p keyword given symbol ∷ []; sorts = p.sorts }

-- a page with a sort of a width, whose id may be there
abbrev pub with_sort_by : Page → ℕ → Option ℕ → Page
with_sort_by p width (Some id) = p
with_sort_by p width None =
    record { lines = (put p keywords.Sort (arguments.Bitvec ∷ arguments.Number width ∷ []) None).lines; sorts = update nat_eq p.sorts width (Some (next_id p)) }

abbrev pub with_sort : Page → ℕ → Page
with_sort p width = with_sort_by p width (p.sorts width)

-- the id of the sort of a width
abbrev pub sort_id : Page → ℕ → ℕ
sort_id p width = unwrap_or (p.sorts width) 0

-- a sort, ids and numbers as arguments
abbrev pub arguments_of : ℕ → List ℕ → List ℕ → List Argument
arguments_of sort ids numbers = arguments.Id sort ∷ (map arguments.Id ids ++ map arguments.Number numbers)

-- a page with one more line of a width, and the line's id
abbrev pub with_line : Page → ℕ → Keyword → List ℕ → List ℕ → Option (List ℕ) → Page
with_line p width keyword ids numbers symbol = put (with_sort p width) keyword (arguments_of (sort_id (with_sort p width) width) ids numbers) symbol

abbrev pub id_of_line : Page → ℕ → ℕ
id_of_line p width = next_id (with_sort p width)

-- a page with a constant
abbrev pub with_constant : Page → BitVector → Page
with_constant p value = put (with_sort p value.width) keywords.Constd (arguments.Id (sort_id (with_sort p value.width) value.width) ∷ arguments.Numeral (decimal value.number) ∷ []) None

-- a page, and the ids of what was written last
pub record Draft : Type 0 where
  pub page : Page
  pub ids : List ℕ

abbrev pub id_in : List ℕ → ℕ → ℕ
id_in ids number = slice_index_or ids number 0

-- one more state: its first value, itself and its `init`
abbrev pub with_state : Draft → StateWire → Draft
with_state d wire =
    let constant : Page = with_constant d.page wire.first in
    let state : Page = with_line constant wire.width keywords.State [] [] (Some wire.name) in
    record {
      page = with_line state wire.width keywords.Init (id_of_line constant wire.width ∷ id_of_line d.page wire.first.width ∷ []) [] None;
      ids = d.ids ++ id_of_line constant wire.width ∷ [];
    }

-- one more input
abbrev pub with_input : Draft → InputWire → Draft
with_input d wire = record { page = with_line d.page wire.width keywords.Input [] [] (Some wire.name); ids = d.ids ++ id_of_line d.page wire.width ∷ [] }

-- a line after others, which is the next node
abbrev pub with_node_line : Draft → ℕ → Keyword → List ℕ → List ℕ → Draft
with_node_line d width keyword ids numbers = record { page = with_line d.page width keyword ids numbers None; ids = d.ids ++ id_of_line d.page width ∷ [] }

-- one more node of a width: a constant or an operator, or an input or a state that is there
abbrev pub with_node : (inputs states : List ℕ) → Draft → ℕ → NetOp → Draft
with_node inputs states d width (Const value) = record { page = with_constant d.page value; ids = d.ids ++ id_of_line d.page value.width ∷ [] }
with_node inputs states d width (Input number of_width) = record { page = d.page; ids = d.ids ++ id_in inputs number ∷ [] }
with_node inputs states d width (State number of_width) = record { page = d.page; ids = d.ids ++ id_in states number ∷ [] }
with_node inputs states d width (One operator a) = with_node_line d width (keyword_of_one operator) (id_in d.ids a ∷ []) []
with_node inputs states d width (Two operator a b) = with_node_line d width (keyword_of_two operator) (id_in d.ids a ∷ id_in d.ids b ∷ []) []
with_node inputs states d width (Slice a upper lower) = with_node_line d width keywords.Slice (id_in d.ids a ∷ []) (upper ∷ lower ∷ [])
with_node inputs states d width (Uext a added) = with_node_line d width keywords.Uext (id_in d.ids a ∷ []) (added ∷ [])
with_node inputs states d width (Sext a added) = with_node_line d width keywords.Sext (id_in d.ids a ∷ []) (added ∷ [])
with_node inputs states d width (Ite condition a b) = with_node_line d width keywords.Ite (id_in d.ids condition ∷ id_in d.ids a ∷ id_in d.ids b ∷ []) []

-- a page with a state's `next`
abbrev pub with_next : (nodes : List ℕ) → Page → StateWire → ℕ → Page
with_next nodes p wire state = with_line p wire.width keywords.Next (state ∷ id_in nodes wire.next ∷ []) [] None

-- a page with an output
abbrev pub with_output : (nodes : List ℕ) → Page → OutputWire → Page
with_output nodes p wire = put p keywords.Output (arguments.Id (id_in nodes wire.id) ∷ []) (Some wire.name)

-- all states, inputs, nodes, `next`s and outputs, in order
abbrev pub with_states : Draft → List StateWire → Draft
with_states d [] = d
with_states d (wire ∷ wires) = with_states (with_state d wire) wires

abbrev pub with_inputs : Draft → List InputWire → Draft
with_inputs d [] = d
with_inputs d (wire ∷ wires) = with_inputs (with_input d wire) wires

-- the widths of nodes are those at their numbers, and a node's number is how many were written
abbrev pub with_nodes : (inputs states widths : List ℕ) → Draft → List NetOp → Draft
with_nodes inputs states widths d [] = d
with_nodes inputs states widths d (op ∷ ops) = with_nodes inputs states widths (with_node inputs states d (width_at widths (length d.ids)) op) ops

-- the states are those from this number on
abbrev pub with_nexts : (nodes states : List ℕ) → Page → ℕ → List StateWire → Page
with_nexts nodes states p number [] = p
with_nexts nodes states p number (wire ∷ wires) = with_nexts nodes states (with_next nodes p wire (id_in states number)) (number + 1) wires

abbrev pub with_outputs : (nodes : List ℕ) → Page → List OutputWire → Page
with_outputs nodes p [] = p
with_outputs nodes p (wire ∷ wires) = with_outputs nodes (with_output nodes p wire) wires

-- the parts of a circuit's text, one after another
abbrev pub states_of : Wires → Draft
states_of c = with_states (record { page = blank; ids = [] }) c.states

abbrev pub inputs_of : Wires → Draft
inputs_of c = with_inputs (record { page = (states_of c).page; ids = [] }) c.inputs

abbrev pub nodes_of : Wires → Draft
nodes_of c = with_nodes (inputs_of c).ids (states_of c).ids (widths_of c.net) (record { page = (inputs_of c).page; ids = [] }) c.net

-- the lines of a circuit
unfoldable pub lines_of : Wires → List Line
lines_of c = (with_outputs (nodes_of c).ids (with_nexts (nodes_of c).ids (states_of c).ids (nodes_of c).page 0 c.states) c.outputs).lines
