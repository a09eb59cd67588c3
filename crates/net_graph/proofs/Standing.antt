-- Where the operators of a net stand.
use Rattle.std.proofs.Common.{ℕ, zero, suc, ◌<◌, List, [], ◌∷◌, ◌++◌, length, get_or, take, subst, arith}
use Rattle.net_graph.specs.Nets.{one_by_one, op_width, widths_of, AllStand, Stands}
use Rattle.net_graph.specs.declared.node.NetOp.{NetOp}
use Rattle.net_graph.proofs.OneByOne.{one_by_one-take}

AllStand-at : (before : List ℕ) (ops : List NetOp) (i : ℕ) (d : NetOp) → i < length ops → AllStand before ops → Stands (one_by_one op_width before (take i ops)) (get_or ops i d)
AllStand-at before [] i d within stand = absurd (omega arith)
AllStand-at before (op ∷ ops) zero d within stand = stand.0
AllStand-at before (op ∷ ops) (suc i) d within stand = AllStand-at (before ++ op_width before op ∷ []) ops i d (omega arith) stand.1

-- an operator of a net stands over the nodes before it
pub stands_at : (ops : List NetOp) (i : ℕ) (d : NetOp) → i < length ops → AllStand [] ops → Stands (take i (widths_of ops)) (get_or ops i d)
stands_at ops i d within stand =
    subst (λ (widths : List ℕ). Stands widths (get_or ops i d)) (one_by_one-take op_width ops i (omega arith)) (AllStand-at [] ops i d within stand)

-- an operator that may stand goes last
pub AllStand-push : (before : List ℕ) (ops : List NetOp) (op : NetOp) → AllStand before ops → Stands (one_by_one op_width before ops) op → AllStand before (ops ++ op ∷ [])
AllStand-push before [] op stand stands = (stands, tt)
AllStand-push before (x ∷ xs) op stand stands = (stand.0, AllStand-push (before ++ op_width before x ∷ []) xs op stand.1 stands)
