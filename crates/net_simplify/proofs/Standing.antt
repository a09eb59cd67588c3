-- What holds of a node of a net: what it stands on, its width and its value.
use Rattle.std.proofs.Common.{◌≡◌, ℕ, ◌+◌, ◌<◌, ◌≤◌, List, [], length, get_or, take, refl, sym, ap, subst, ◌∙◌, arith}
use Rattle.std.specs.Prelude.{slice_get, Some}
use Rattle.std.proofs.lemmas.List.{get_or-take, length-take-le}
use Rattle.std.proofs.lemmas.Option.{get_or_from_slice_get, slice_get_within}
use Rattle.kw_bits.specs.BitVector.{BitVector, IsBits}
use Rattle.kw_bits.specs.Laws.{HasWidth}
use Rattle.net_graph.specs.Laws.{Feeds}
use Rattle.net_graph.specs.Nets.{HoldsBits, IsNet, op_width, Stands, width_at, widths_of}
use Rattle.net_graph.specs.Operators.{TakesTwo}
use Rattle.net_graph.specs.Values.{no_bits, node_value, op_value, Sources, values_of}
use Rattle.net_graph.specs.declared.node.NetOp.{NetOp}
use Rattle.net_graph.specs.declared.node.NetOp.TheVariants.{Const, Input, State, One, Two, Slice, Uext, Sext, Ite}
use Rattle.net_graph.proofs.NodeWidths.{node_width}
use Rattle.net_graph.proofs.OneByOne.{length-one_by_one}
use Rattle.net_graph.proofs.OperatorWidths.{width-value_at}
use Rattle.net_graph.proofs.Standing.{stands_at}
use Rattle.net_graph.proofs.Values.{values-by_operators, values-widths}

-- an operator that stands over the first nodes stands over all
stands_more : (ws : List ℕ) (i : ℕ) (op : NetOp) → length (take i ws) ≡ i → i ≤ length ws → Stands (take i ws) op → Stands ws op
stands_more ws i (Const value) few some h = h
stands_more ws i (Input number width) few some h = h
stands_more ws i (State number width) few some h = h
stands_more ws i (One operator a) few some h = omega arith
stands_more ws i (Two operator a b) few some h =
    let x : width_at (take i ws) a ≡ width_at ws a = get_or-take i ws a 0 (omega arith) in
    let y : width_at (take i ws) b ≡ width_at ws b = get_or-take i ws b 0 (omega arith) in
    (omega arith, omega arith, subst (λ w. TakesTwo operator w (width_at ws b)) x (subst (λ w. TakesTwo operator (width_at (take i ws) a) w) y h.2))
stands_more ws i (Slice a upper lower) few some h =
    let x : width_at (take i ws) a ≡ width_at ws a = get_or-take i ws a 0 (omega arith) in
    (omega arith, h.1, subst (λ w. upper < w) x h.2)
stands_more ws i (Uext a added) few some h =
    let x : width_at (take i ws) a ≡ width_at ws a = get_or-take i ws a 0 (omega arith) in
    (omega arith, subst (λ w. w + added ≤ 128) x h.1)
stands_more ws i (Sext a added) few some h =
    let x : width_at (take i ws) a ≡ width_at ws a = get_or-take i ws a 0 (omega arith) in
    (omega arith, subst (λ w. w + added ≤ 128) x h.1)
stands_more ws i (Ite condition a b) few some h =
    let z : width_at (take i ws) condition ≡ width_at ws condition = get_or-take i ws condition 0 (omega arith) in
    let x : width_at (take i ws) a ≡ width_at ws a = get_or-take i ws a 0 (omega arith) in
    let y : width_at (take i ws) b ≡ width_at ws b = get_or-take i ws b 0 (omega arith) in
    (omega arith, omega arith, omega arith, sym z ∙ h.3, sym x ∙ h.4 ∙ y)

module _ (net : List NetOp) (is : IsNet net) where
  count : length (widths_of net) ≡ length net
  count = omega (arith, length-one_by_one op_width [] net)

  pub within_node : (id : ℕ) → id < length (widths_of net) → id < length net
  within_node id h = omega (arith, count)

  -- a node stands over nodes before it
  pub stands_before : (id : ℕ) (op : NetOp) → slice_get net id ≡ Some op → Stands (take id (widths_of net)) op
  stands_before id op at =
      let here : get_or net id op ≡ op = get_or_from_slice_get net id op op at in
      subst (λ (o : NetOp). Stands (take id (widths_of net)) o) here (stands_at net id op (slice_get_within net id op at) is.stand)

  first_few : (id : ℕ) → id < length net → length (take id (widths_of net)) ≡ id
  first_few id within = length-take-le id (widths_of net) (omega (arith, count))

  -- and so over all
  pub stands_node : (id : ℕ) (op : NetOp) → slice_get net id ≡ Some op → Stands (widths_of net) op
  stands_node id op at =
      let within : id < length net = slice_get_within net id op at in
      stands_more (widths_of net) id op (first_few id within) (omega (arith, count)) (stands_before id op at)

  -- a node has its operator's width
  pub width_node : (id : ℕ) (op : NetOp) → slice_get net id ≡ Some op → width_at (widths_of net) id ≡ op_width (widths_of net) op
  width_node id op at = node_width net id op is at

  -- and its operator's value
  pub value_node : (s : Sources) (id : ℕ) (op : NetOp) → slice_get net id ≡ Some op → node_value s net id ≡ op_value s (values_of s net) op
  value_node s id op at = values-by_operators s net id op is at

  -- which is a bit vector of its width
  pub bits_node : (s : Sources) (id : ℕ) → Feeds s net → id < length net → HasWidth (node_value s net id) (width_at (widths_of net) id)
  bits_node s id feeds within =
      let fit = values-widths s net is feeds in
      let many : length (values_of s net) ≡ length net = omega (arith, length-one_by_one (op_value s) [] net) in
      (fit.1 id no_bits (omega arith), sym (width-value_at (values_of s net) id) ∙ ap (λ (ws : List ℕ). get_or ws id 0) fit.0)

  -- a constant node has its constant's value, which is a bit vector
  pub constant_bits : (id : ℕ) (value : BitVector) → slice_get net id ≡ Some (Const value) → IsBits value
  constant_bits id value at =
      let here : get_or net id (Const value) ≡ Const value = get_or_from_slice_get net id (Const value) (Const value) at in
      subst HoldsBits here (is.constants id (Const value) (slice_get_within net id (Const value) at))
