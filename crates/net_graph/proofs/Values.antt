-- The values of a net's nodes.
use Rattle.std.proofs.Common.{◌≡◌, ℕ, suc, ◌+◌, ◌<◌, ◌≤◌, List, [], ◌∷◌, ◌++◌, length, get_or, take, refl, sym, ap, subst, ◌∙◌, arith}
use Rattle.std.specs.List.{All}
use Rattle.std.proofs.lemmas.List.{map-append, take-map, length-take-le, get_or-take, get_or_at}
use Rattle.std.proofs.lemmas.List.Elements.{All-push}
use Rattle.std.proofs.lemmas.Option.{get_or_from_slice_get, slice_get_within}
use Rattle.kw_bits.specs.BitVector.{BitVector, IsBits}
use Rattle.kw_bits.specs.Laws.{HasWidth}
use Rattle.net_graph.specs.Laws.{Feeds, FollowOperators, HaveWidths, KeepValues}
use Rattle.net_graph.specs.Nets.{AllStand, HoldsBits, IsNet, one_by_one, op_width, Stands, widths_of}
use Rattle.net_graph.specs.Values.{AllRead, no_bits, op_value, Sources, value_at, values_of, widths}
use Rattle.net_graph.specs.declared.node.NetOp.{NetOp}
use Rattle.net_graph.specs.declared.node.NetOp.TheVariants.{Const, Input, State, One, Two, Slice, Uext, Sext, Ite}
use Rattle.net_graph.proofs.OneByOne.{get_or-one_by_one-append, length-one_by_one, take_more-one_by_one}
use Rattle.net_graph.proofs.OperatorWidths.{op_value-HasWidth}
use Rattle.net_graph.proofs.Standing.{stands_at}

-- all of them are bit vectors of the nodes' widths
grown : (s : Sources) → All IsBits s.inputs → All IsBits s.states → (before : List BitVector) (ops : List NetOp) → All IsBits before → AllStand (widths before) ops → All HoldsBits ops → AllRead (widths s.inputs) (widths s.states) ops
    → (widths (one_by_one (op_value s) before ops) ≡ one_by_one op_width (widths before) ops) × All IsBits (one_by_one (op_value s) before ops)
grown s i t before [] bits stand constants reads = (refl, bits)
grown s i t before (op ∷ ops) bits stand constants reads =
    let value : BitVector = op_value s before op in
    let own : HasWidth value (op_width (widths before) op) = op_value-HasWidth s before op i t bits stand.0 (reads 0 op (omega arith)) (constants 0 op (omega arith)) in
    let more : List BitVector = before ++ value ∷ [] in
    let wider : widths more ≡ widths before ++ op_width (widths before) op ∷ [] = map-append (λ (v : BitVector). v.width) before (value ∷ []) ∙ ap (λ (w : ℕ). widths before ++ w ∷ []) own.1 in
    let rest = grown s i t more ops (All-push IsBits before value bits own.0) (subst (λ (ws : List ℕ). AllStand ws ops) (sym wider) stand.1) (λ k d h. constants (suc k) d (omega arith)) (λ k d h. reads (suc k) d (omega arith)) in
    (rest.0 ∙ ap (λ (ws : List ℕ). one_by_one op_width ws ops) wider, rest.1)

pub values-widths : HaveWidths
values-widths s ops net feeds =
    grown s feeds.inputs feeds.states [] ops (λ k d h. absurd (omega arith)) net.stand net.constants feeds.reads

-- nodes that are added leave the values of those before them
pub values-kept : KeepValues
values-kept s old more id within = get_or-one_by_one-append (op_value s) old more id no_bits within

-- the operator at a place stands over the values before it
pub stands_over : (s : Sources) (ops : List NetOp) (i : ℕ) (d : NetOp) → i < length ops → IsNet ops → Feeds s ops → Stands (widths (take i (values_of s ops))) (get_or ops i d)
stands_over s ops i d within net feeds =
    let same : take i (widths_of ops) ≡ widths (take i (values_of s ops)) = ap (take i) (sym (values-widths s ops net feeds).0) ∙ take-map (λ (v : BitVector). v.width) i (values_of s ops) in
    subst (λ (ws : List ℕ). Stands ws (get_or ops i d)) same (stands_at ops i d within net.stand)

-- the values of operands are those of all nodes
same_operands : (s : Sources) (values : List BitVector) (i : ℕ) (ws : List ℕ) (op : NetOp) → length ws ≤ i → Stands ws op → op_value s (take i values) op ≡ op_value s values op
same_operands s values i ws (Const value) few stands = refl
same_operands s values i ws (Input number width) few stands = refl
same_operands s values i ws (State number width) few stands = refl
same_operands s values i ws (One operator a) few stands = ap (λ (x : BitVector). op_value s (x ∷ []) (One operator 0)) (get_or-take i values a no_bits (omega arith))
same_operands s values i ws (Two operator a b) few stands = simp (get_or-take i values a no_bits (omega arith), get_or-take i values b no_bits (omega arith))
same_operands s values i ws (Slice a upper lower) few stands = simp (get_or-take i values a no_bits (omega arith))
same_operands s values i ws (Uext a added) few stands = simp (get_or-take i values a no_bits (omega arith))
same_operands s values i ws (Sext a added) few stands = simp (get_or-take i values a no_bits (omega arith))
same_operands s values i ws (Ite condition a b) few stands =
    simp (get_or-take i values condition no_bits (omega arith), get_or-take i values a no_bits (omega arith), get_or-take i values b no_bits (omega arith))

-- a node has the value of its operator over the values of all nodes
pub values-by_operators : FollowOperators
values-by_operators s ops id op net at =
    let within : id < length ops = slice_get_within ops id op at in
    let here : get_or ops id op ≡ op = get_or_from_slice_get ops id op op at in
    let values : List BitVector = values_of s ops in
    let count : length values ≡ length ops = omega (arith, length-one_by_one (op_value s) [] ops) in
    let first : List BitVector = take id values in
    let stands = stands_at ops id op within net.stand in
    let ws_count : length (take id (widths_of ops)) ≤ id = omega (arith, length-take-le id (widths_of ops) (omega (arith, length-one_by_one op_width [] ops))) in
    let last : value_at values id ≡ op_value s first (get_or ops id op) =
    sym (get_or-take (id + 1) values id no_bits (omega arith)) ∙ ap (λ (xs : List BitVector). get_or xs id no_bits) (take_more-one_by_one (op_value s) ops id op within)
    ∙ get_or_at first (op_value s first (get_or ops id op)) [] no_bits id (length-take-le id values (omega arith)) in
    last ∙ same_operands s values id (take id (widths_of ops)) (get_or ops id op) ws_count stands ∙ ap (op_value s values) here
