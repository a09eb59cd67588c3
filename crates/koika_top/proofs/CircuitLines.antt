-- The lines that a circuit is written as: none of them is a bad line, each output has its name as symbol, and each line's number is
-- that of its place.
use Rattle.std.proofs.Common.{◌≡◌, ℕ, ◌+◌, Bool, true, false, List, [], ◌∷◌, ◌++◌, length, Option, Some, None, refl, sym, ap, ap₂, subst, ◌∙◌, arith}
use Rattle.std.specs.Prelude.{All, ⊤}
use Rattle.std.specs.List.{AllByRecursion}
use Rattle.std.proofs.lemmas.Bool.{false≢true}
use Rattle.std.proofs.lemmas.List.Elements.{All-from_recursion, All-push, recursion_from_All}
use Rattle.kw_base.specs.Place.{capped}
use Rattle.kw_bits.specs.BitVector.{BitVector}
use Rattle.net_graph.specs.Nets.{width_at, widths_of}
use Rattle.net_graph.specs.declared.node.NetOne.{NetOne}
use Rattle.net_graph.specs.declared.node.NetOne.TheVariants as ones
use Rattle.net_graph.specs.declared.node.NetOp.{NetOp}
use Rattle.net_graph.specs.declared.node.NetOp.TheVariants.{Const, Input, State, One, Two, Slice, Uext, Sext, Ite}
use Rattle.net_graph.specs.declared.node.NetTwo.{NetTwo}
use Rattle.net_graph.specs.declared.node.NetTwo.TheVariants as twos
use Rattle.circuit_eval.specs.declared.circuit.InputWire.{InputWire}
use Rattle.circuit_eval.specs.declared.circuit.OutputWire.{OutputWire}
use Rattle.circuit_eval.specs.declared.circuit.StateWire.{StateWire}
use Rattle.circuit_eval.specs.declared.circuit.Wires.{Wires}
use Rattle.btor2_text.specs.Cut.{number_after}
use Rattle.btor2_text.specs.Printable.{numbered_from}
use Rattle.btor2_text.specs.declared.keyword.Keyword.{Keyword}
use Rattle.btor2_text.specs.declared.keyword.Keyword.TheVariants as keywords
use Rattle.btor2_text.specs.declared.line.Argument.{Argument}
use Rattle.btor2_text.specs.declared.line.Argument.TheVariants as arguments
use Rattle.btor2_text.specs.declared.line.Line.{Line}
use Rattle.btor2_model.specs.Rules.{is_bad, is_output, rule_of}
use Rattle.btor2_model.specs.Run as text
use Rattle.btor2_net.specs.Pages.{Draft, Page, blank, id_in, id_of_line, inputs_of, keyword_of_one, keyword_of_two, lines_of, nodes_of, put, states_of, with_constant, with_input, with_inputs, with_line, with_next, with_nexts, with_node, with_nodes, with_output, with_outputs, with_sort, with_sort_by, with_state, with_states}

-- a keyword is none of a bad line, and of an output only where there is a symbol
pub record IsMade (keyword : Keyword) (symbol : Option (List ℕ)) : Type 0 where
  pub no_bad : is_bad (rule_of keyword) ≡ false
  pub named : is_output (rule_of keyword) ≡ true → (name : List ℕ) × (symbol ≡ Some name)

abbrev pub LineIsMade : Line → Type 0
LineIsMade line = IsMade line.keyword line.symbol

-- lines are numbered from this number on
abbrev pub AreNumbered : ℕ → List Line → Type 0
AreNumbered number [] = ⊤
AreNumbered number (line ∷ lines) = (line.number ≡ capped number) × AreNumbered (number + 1) lines

pub numbered-behind : (number : ℕ) (xs ys : List Line) → AreNumbered number xs → AreNumbered (number + length xs) ys → AreNumbered number (xs ++ ys)
numbered-behind number [] ys before after =
    let same : number + length {A = Line} [] ≡ number = omega arith in
    subst (λ k. AreNumbered k ys) same after
numbered-behind number (x ∷ xs) ys before after =
    let next : number + 1 + length xs ≡ number + length (x ∷ xs) = omega arith in
    (before.0, numbered-behind (number + 1) xs ys before.1 (subst (λ k. AreNumbered k ys) (sym next) after))

-- lines that are numbered are the same when they are numbered anew
pub numbered-anew : (number : ℕ) (lines : List Line) → AreNumbered number lines → numbered_from (capped number) lines ≡ lines
numbered-anew number [] are = refl
numbered-anew number (line ∷ lines) are =
    let next : number_after (capped number) ≡ capped (number + 1) = omega arith in
    ap₂ (λ (first : Line) (rest : List Line). first ∷ rest)
    (ap (λ k. record line { number = k }) (sym are.0))
    (ap (λ k. numbered_from k lines) next ∙ numbered-anew (number + 1) lines are.1)

record AllMade (p : Page) : Type 0 where
  pub made : All LineIsMade p.lines
  pub numbered : AreNumbered 1 p.lines

-- a line that is neither bad nor an output
other : (keyword : Keyword) (symbol : Option (List ℕ)) → is_bad (rule_of keyword) ≡ false → is_output (rule_of keyword) ≡ false → IsMade keyword symbol
other keyword symbol bad output = record { no_bad = bad; named = λ is. absurd (false≢true (sym output ∙ is)) }

made-put : (p : Page) (keyword : Keyword) (given : List Argument) (symbol : Option (List ℕ)) → AllMade p → IsMade keyword symbol → AllMade (put p keyword given symbol)
made-put p keyword given symbol all is =
    let same : 1 + length p.lines ≡ length p.lines + 1 = omega arith in
    record {
      made = All-push LineIsMade p.lines _ all.made is;
      numbered = numbered-behind 1 p.lines _ all.numbered (ap capped (sym same), tt);
    }

made-sort-by : (p : Page) (width : ℕ) (found : Option ℕ) → AllMade p → AllMade (with_sort_by p width found)
made-sort-by p width (Some id) all = all
made-sort-by p width None all =
    let more = made-put p keywords.Sort (arguments.Bitvec ∷ arguments.Number width ∷ []) None all (other keywords.Sort None refl refl) in
    record { made = more.made; numbered = more.numbered }

made-line : (p : Page) (width : ℕ) (keyword : Keyword) (ids numbers : List ℕ) (symbol : Option (List ℕ)) → AllMade p → IsMade keyword symbol → AllMade (with_line p width keyword ids numbers symbol)
made-line p width keyword ids numbers symbol all is = made-put (with_sort p width) keyword _ symbol (made-sort-by p width (p.sorts width) all) is

made-constant : (p : Page) (value : BitVector) → AllMade p → AllMade (with_constant p value)
made-constant p value all = made-put (with_sort p value.width) keywords.Constd _ None (made-sort-by p value.width (p.sorts value.width) all) (other keywords.Constd None refl refl)

made-one : (operator : NetOne) → IsMade (keyword_of_one operator) None
made-one ones.Not = other keywords.Not None refl refl
made-one ones.Neg = other keywords.Neg None refl refl
made-one ones.Inc = other keywords.Inc None refl refl
made-one ones.Dec = other keywords.Dec None refl refl
made-one ones.RedAnd = other keywords.Redand None refl refl
made-one ones.RedOr = other keywords.Redor None refl refl
made-one ones.RedXor = other keywords.Redxor None refl refl

made-two : (operator : NetTwo) → IsMade (keyword_of_two operator) None
made-two twos.And = other keywords.And None refl refl
made-two twos.Or = other keywords.Or None refl refl
made-two twos.Xor = other keywords.Xor None refl refl
made-two twos.Nand = other keywords.Nand None refl refl
made-two twos.Nor = other keywords.Nor None refl refl
made-two twos.Xnor = other keywords.Xnor None refl refl
made-two twos.Add = other keywords.Add None refl refl
made-two twos.Sub = other keywords.Sub None refl refl
made-two twos.Mul = other keywords.Mul None refl refl
made-two twos.Sll = other keywords.Sll None refl refl
made-two twos.Srl = other keywords.Srl None refl refl
made-two twos.Sra = other keywords.Sra None refl refl
made-two twos.EqBits = other keywords.Eq None refl refl
made-two twos.Neq = other keywords.Neq None refl refl
made-two twos.Ult = other keywords.Ult None refl refl
made-two twos.Ulte = other keywords.Ulte None refl refl
made-two twos.Ugt = other keywords.Ugt None refl refl
made-two twos.Ugte = other keywords.Ugte None refl refl
made-two twos.Slt = other keywords.Slt None refl refl
made-two twos.Slte = other keywords.Slte None refl refl
made-two twos.Sgt = other keywords.Sgt None refl refl
made-two twos.Sgte = other keywords.Sgte None refl refl
made-two twos.Iff = other keywords.Iff None refl refl
made-two twos.Implies = other keywords.Implies None refl refl
made-two twos.Concat = other keywords.Concat None refl refl

-- ---- parts of a circuit, one after another

made-state : (d : Draft) (wire : StateWire) → AllMade d.page → AllMade (with_state d wire).page
made-state d wire all =
    let constant : Page = with_constant d.page wire.first in
    let state : Page = with_line constant wire.width keywords.State [] [] (Some wire.name) in
    made-line state wire.width keywords.Init (id_of_line constant wire.width ∷ id_of_line d.page wire.first.width ∷ []) [] None
    (made-line constant wire.width keywords.State [] [] (Some wire.name) (made-constant d.page wire.first all) (other keywords.State (Some wire.name) refl refl))
    (other keywords.Init None refl refl)

made-states : (d : Draft) (wires : List StateWire) → AllMade d.page → AllMade (with_states d wires).page
made-states d [] all = all
made-states d (wire ∷ wires) all = made-states (with_state d wire) wires (made-state d wire all)

made-inputs : (d : Draft) (wires : List InputWire) → AllMade d.page → AllMade (with_inputs d wires).page
made-inputs d [] all = all
made-inputs d (wire ∷ wires) all =
    made-inputs (with_input d wire) wires (made-line d.page wire.width keywords.Input [] [] (Some wire.name) all (other keywords.Input (Some wire.name) refl refl))

made-node : (inputs states : List ℕ) (d : Draft) (width : ℕ) (op : NetOp) → AllMade d.page → AllMade (with_node inputs states d width op).page
made-node inputs states d width (Const value) all = made-constant d.page value all
made-node inputs states d width (Input number of_width) all = all
made-node inputs states d width (State number of_width) all = all
made-node inputs states d width (One operator a) all = made-line d.page width (keyword_of_one operator) (id_in d.ids a ∷ []) [] None all (made-one operator)
made-node inputs states d width (Two operator a b) all = made-line d.page width (keyword_of_two operator) (id_in d.ids a ∷ id_in d.ids b ∷ []) [] None all (made-two operator)
made-node inputs states d width (Slice a upper lower) all = made-line d.page width keywords.Slice (id_in d.ids a ∷ []) (upper ∷ lower ∷ []) None all (other keywords.Slice None refl refl)
made-node inputs states d width (Uext a added) all = made-line d.page width keywords.Uext (id_in d.ids a ∷ []) (added ∷ []) None all (other keywords.Uext None refl refl)
made-node inputs states d width (Sext a added) all = made-line d.page width keywords.Sext (id_in d.ids a ∷ []) (added ∷ []) None all (other keywords.Sext None refl refl)
made-node inputs states d width (Ite condition a b) all = made-line d.page width keywords.Ite (id_in d.ids condition ∷ id_in d.ids a ∷ id_in d.ids b ∷ []) [] None all (other keywords.Ite None refl refl)

made-nodes : (inputs states widths : List ℕ) (d : Draft) (ops : List NetOp) → AllMade d.page → AllMade (with_nodes inputs states widths d ops).page
made-nodes inputs states widths d [] all = all
made-nodes inputs states widths d (op ∷ ops) all =
    made-nodes inputs states widths (with_node inputs states d (width_at widths (length d.ids)) op) ops (made-node inputs states d (width_at widths (length d.ids)) op all)

made-nexts : (nodes states : List ℕ) (p : Page) (number : ℕ) (wires : List StateWire) → AllMade p → AllMade (with_nexts nodes states p number wires)
made-nexts nodes states p number [] all = all
made-nexts nodes states p number (wire ∷ wires) all =
    made-nexts nodes states (with_next nodes p wire (id_in states number)) (number + 1) wires
    (made-line p wire.width keywords.Next (id_in states number ∷ id_in nodes wire.next ∷ []) [] None all (other keywords.Next None refl refl))

made-outputs : (nodes : List ℕ) (p : Page) (wires : List OutputWire) → AllMade p → AllMade (with_outputs nodes p wires)
made-outputs nodes p [] all = all
made-outputs nodes p (wire ∷ wires) all =
    made-outputs nodes (with_output nodes p wire) wires (made-put p keywords.Output (arguments.Id (id_in nodes wire.id) ∷ []) (Some wire.name) all (record { no_bad = refl; named = λ _. (wire.name, refl) }))

none : AllMade blank
none = record { made = All-from_recursion LineIsMade [] tt; numbered = tt }

record AreMade (lines : List Line) : Type 0 where
  pub made : All LineIsMade lines
  pub numbered : AreNumbered 1 lines

are-made : (p : Page) → AllMade p → AreMade p.lines
are-made p all = record { made = all.made; numbered = all.numbered }

made-lines : (c : Wires) → AreMade (lines_of c)
unfolding lines_of
made-lines c =
    are-made _
    (made-outputs (nodes_of c).ids _ c.outputs
    (made-nexts (nodes_of c).ids (states_of c).ids (nodes_of c).page 0 c.states
    (made-nodes (inputs_of c).ids (states_of c).ids (widths_of c.net) (record { page = (inputs_of c).page; ids = [] }) c.net
    (made-inputs (record { page = (states_of c).page; ids = [] }) c.inputs
    (made-states (record { page = blank; ids = [] }) c.states none)))))

-- ---- what the lines are

no-bads-in : (lines : List Line) → AllByRecursion LineIsMade lines → text.lines_by_rule is_bad lines ≡ []
no-bads-in [] all = refl
no-bads-in (line ∷ lines) all = rw all.0.no_bad (no-bads-in lines all.1)

-- none is a bad line
pub no-bads : (c : Wires) → text.lines_by_rule is_bad (lines_of c) ≡ []
no-bads c = no-bads-in (lines_of c) (recursion_from_All LineIsMade (lines_of c) (made-lines c).made)

-- a line has a symbol
abbrev pub HasSymbol : Line → Type 0
HasSymbol line = (name : List ℕ) × (line.symbol ≡ Some name)

named-by : (line : Line) (lines : List Line) (b : Bool) → is_output (rule_of line.keyword) ≡ b → LineIsMade line → AllByRecursion HasSymbol (text.lines_by_rule is_output lines)
    → AllByRecursion HasSymbol (text.lines_by_rule is_output (line ∷ lines))
named-by line lines true e is all = rw e (is.named e, all)
named-by line lines false e is all = rw e all

named-in : (lines : List Line) → AllByRecursion LineIsMade lines → AllByRecursion HasSymbol (text.lines_by_rule is_output lines)
named-in [] all = tt
named-in (line ∷ lines) all = named-by line lines (is_output (rule_of line.keyword)) refl all.0 (named-in lines all.1)

-- each output has its name as symbol
pub outputs-named : (c : Wires) → AllByRecursion HasSymbol (text.lines_by_rule is_output (lines_of c))
outputs-named c = named-in (lines_of c) (recursion_from_All LineIsMade (lines_of c) (made-lines c).made)

-- each line's number is that of its place
pub lines-numbered : (c : Wires) → AreNumbered 1 (lines_of c)
lines-numbered c = (made-lines c).numbered
