-- Each node of a net is 1 to 128 bits wide, and has its operator's width.
use Rattle.std.proofs.Common.{◌≡◌, ℕ, suc, ◌+◌, ◌<◌, ◌≤◌, List, [], ◌∷◌, ◌++◌, length, get_or, take, refl, sym, ap, ◌∙◌, arith, lit≤}
use Rattle.std.specs.Prelude.{Some, slice_get}
use Rattle.std.specs.List.{All}
use Rattle.std.proofs.lemmas.List.{get_or-take, get_or_at, length-take-le}
use Rattle.std.proofs.lemmas.List.Elements.{All-push}
use Rattle.std.proofs.lemmas.Option.{get_or_from_slice_get, slice_get_within}
use Rattle.net_graph.specs.Operators.{one_width, two_width, TakesTwo}
use Rattle.net_graph.specs.Nets.{AllStand, HoldsBits, IsNet, one_by_one, op_width, Stands, width_at, widths_of}
use Rattle.net_graph.specs.declared.node.NetOne.{NetOne}
use Rattle.net_graph.specs.declared.node.NetOne.TheVariants.{Not, Neg, Inc, Dec, RedAnd, RedOr, RedXor}
use Rattle.net_graph.specs.declared.node.NetTwo.{NetTwo}
use Rattle.net_graph.specs.declared.node.NetTwo.TheVariants.{And, Or, Xor, Nand, Nor, Xnor, Add, Sub, Mul, Sll, Srl, Sra, EqBits, Neq, Ult, Ulte, Ugt, Ugte, Slt, Slte, Sgt, Sgte, Iff, Implies, Concat}
use Rattle.net_graph.specs.declared.node.NetOp.{NetOp}
use Rattle.net_graph.specs.declared.node.NetOp.TheVariants.{Const, Input, State, One, Two, Slice, Uext, Sext, Ite}
use Rattle.net_graph.proofs.OneByOne.{length-one_by_one, take_more-one_by_one}
use Rattle.net_graph.proofs.Standing.{stands_at}

abbrev Wide : ℕ → Type 0
Wide width = (1 ≤ width) × (width ≤ 128)

one_bit : Wide 1
one_bit = (lit≤ tt, lit≤ tt)

one_width-Wide : (operator : NetOne) (a : ℕ) → Wide a → Wide (one_width operator a)
unfolding one_width
one_width-Wide Not a p = p
one_width-Wide Neg a p = p
one_width-Wide Inc a p = p
one_width-Wide Dec a p = p
one_width-Wide RedAnd a p = one_bit
one_width-Wide RedOr a p = one_bit
one_width-Wide RedXor a p = one_bit

two_width-Wide : (operator : NetTwo) (a b : ℕ) → Wide a → TakesTwo operator a b → Wide (two_width operator a b)
unfolding two_width TakesTwo
two_width-Wide And a b p t = p
two_width-Wide Or a b p t = p
two_width-Wide Xor a b p t = p
two_width-Wide Nand a b p t = p
two_width-Wide Nor a b p t = p
two_width-Wide Xnor a b p t = p
two_width-Wide Add a b p t = p
two_width-Wide Sub a b p t = p
two_width-Wide Mul a b p t = p
two_width-Wide Sll a b p t = p
two_width-Wide Srl a b p t = p
two_width-Wide Sra a b p t = p
two_width-Wide Concat a b p t = (omega (arith, p.0), t)
two_width-Wide EqBits a b p t = one_bit
two_width-Wide Neq a b p t = one_bit
two_width-Wide Ult a b p t = one_bit
two_width-Wide Ulte a b p t = one_bit
two_width-Wide Ugt a b p t = one_bit
two_width-Wide Ugte a b p t = one_bit
two_width-Wide Slt a b p t = one_bit
two_width-Wide Slte a b p t = one_bit
two_width-Wide Sgt a b p t = one_bit
two_width-Wide Sgte a b p t = one_bit
two_width-Wide Iff a b p t = one_bit
two_width-Wide Implies a b p t = one_bit

op_width-Wide : (widths : List ℕ) (op : NetOp) → All Wide widths → Stands widths op → HoldsBits op → Wide (op_width widths op)
op_width-Wide widths (Const value) p stands constant = (constant.some_bit, constant.no_wider)
op_width-Wide widths (Input number width) p stands constant = stands
op_width-Wide widths (State number width) p stands constant = stands
op_width-Wide widths (One operator a) p stands constant = one_width-Wide operator (width_at widths a) (p a 0 stands)
op_width-Wide widths (Two operator a b) p stands constant =
    two_width-Wide operator (width_at widths a) (width_at widths b) (p a 0 stands.0) stands.2
op_width-Wide widths (Slice a upper lower) p stands constant =
    let within : Wide (width_at widths a) = p a 0 stands.0 in (omega arith, omega (arith, within.1, stands.2))
op_width-Wide widths (Uext a added) p stands constant =
    let within : Wide (width_at widths a) = p a 0 stands.0 in (omega (arith, within.0), stands.1)
op_width-Wide widths (Sext a added) p stands constant =
    let within : Wide (width_at widths a) = p a 0 stands.0 in (omega (arith, within.0), stands.1)
op_width-Wide widths (Ite condition a b) p stands constant = p a 0 stands.1

grown : (before : List ℕ) (ops : List NetOp) → All Wide before → AllStand before ops → All HoldsBits ops → All Wide (one_by_one op_width before ops)
grown before [] p stand constants = p
grown before (op ∷ ops) p stand constants =
    let own = op_width-Wide before op p stand.0 (constants 0 op (omega arith)) in
    grown (before ++ op_width before op ∷ []) ops (All-push Wide before (op_width before op) p own) stand.1 (λ k d h. constants (suc k) d (omega arith))

-- each node has a width of bit vectors
pub widths_of-Wide : (ops : List NetOp) → IsNet ops → All (λ width. (1 ≤ width) × (width ≤ 128)) (widths_of ops)
widths_of-Wide ops net = grown [] ops (λ k d h. absurd (omega arith)) net.stand net.constants

-- the width of an operator is that over the nodes before it
same_width : (ws : List ℕ) (i : ℕ) (op : NetOp) → length (take i ws) ≤ i → Stands (take i ws) op → op_width (take i ws) op ≡ op_width ws op
same_width ws i (Const value) few stands = refl
same_width ws i (Input number width) few stands = refl
same_width ws i (State number width) few stands = refl
same_width ws i (One operator a) few stands = simp (get_or-take i ws a 0 (omega arith))
same_width ws i (Two operator a b) few stands = simp (get_or-take i ws a 0 (omega arith), get_or-take i ws b 0 (omega arith))
same_width ws i (Slice a upper lower) few stands = refl
same_width ws i (Uext a added) few stands = simp (get_or-take i ws a 0 (omega arith))
same_width ws i (Sext a added) few stands = simp (get_or-take i ws a 0 (omega arith))
same_width ws i (Ite condition a b) few stands = simp (get_or-take i ws a 0 (omega arith))

-- a node has its operator's width
pub node_width : (net : List NetOp) (id : ℕ) (op : NetOp) → IsNet net → slice_get net id ≡ Some op → width_at (widths_of net) id ≡ op_width (widths_of net) op
node_width ops id op net at =
    let within : id < length ops = slice_get_within ops id op at in
    let here : get_or ops id op ≡ op = get_or_from_slice_get ops id op op at in
    let ws : List ℕ = widths_of ops in
    let count : length ws ≡ length ops = omega (arith, length-one_by_one op_width [] ops) in
    let first : List ℕ = take id ws in
    let few : length first ≡ id = omega (arith, length-take-le id ws (omega arith)) in
    let stands = stands_at ops id op within net.stand in
    let last : width_at ws id ≡ op_width first (get_or ops id op) =
    sym (get_or-take (id + 1) ws id 0 (omega arith)) ∙ ap (λ (xs : List ℕ). get_or xs id 0) (take_more-one_by_one op_width ops id op within)
    ∙ get_or_at first (op_width first (get_or ops id op)) [] 0 id few in
    last ∙ same_width ws id (get_or ops id op) (omega arith) stands ∙ ap (op_width ws) here
