-- How nets grow, and what keeps when they do.
use Rattle.std.proofs.Common.{◌≡◌, ℕ, zero, suc, ◌+◌, ◌<◌, ◌≤◌, ◌⊎◌, inl, inr, true, false, List, [], ◌∷◌, ◌++◌, length, get_or, refl, sym, ap, subst, ◌∙◌, arith, append_assoc, append-nil, length-append, Option}
use Rattle.std.specs.Prelude.{slice_get, Some, None}
use Rattle.std.specs.List.{list_any}
use Rattle.std.proofs.lemmas.Bool.{cases_Bool, both_ways}
use Rattle.std.proofs.lemmas.List.Elements.{All-push}
use Rattle.std.proofs.lemmas.Option.{get_or_from_slice_get, slice_get-get_or, slice_get_within}
use Rattle.kw_bits.specs.BitVector.{BitVector}
use Rattle.net_graph.specs.Laws.{Feeds}
use Rattle.net_graph.specs.Nets.{Adds, IsNet, Stands, op_width, width_at, widths_of}
use Rattle.net_graph.specs.Values.{AllRead, Reads, Sources, no_bits, op_value, values_of, widths}
use Rattle.net_graph.specs.declared.node.NetOp.{NetOp}
use Rattle.net_graph.specs.declared.node.NetOp.TheVariants.{Const, Input, State, One, Two, Slice, Uext, Sext, Ite}
use Rattle.net_graph.proofs.NodeWidths.{node_width, widths_of-Wide}
use Rattle.net_graph.proofs.OneByOne.{get_or-one_by_one-append, length-one_by_one}
use Rattle.net_graph.proofs.OperatorWidths.{width-value_at}
use Rattle.net_graph.proofs.Sharing.{contains_from_found, equal, found_from_contains}
use Rattle.net_graph.proofs.Values.{values-by_operators, values-widths}
use Rattle.net_action.specs.Gates.{Grows}
use Rattle.net_action.specs.inner.Parts.{HaveWires, IsRunning, WireFits}
use Rattle.net_action.specs.Wires.{AreLogWires, ArePortWires, AreValues, HasWire}
use Rattle.net_action.specs.declared.wires.LogWires.{LogWires}
use Rattle.net_action.specs.declared.wires.PortWires.{PortWires}
use Rattle.net_action.specs.declared.wires.RuleNet.{RuleNet}

-- ---- lists that begin with another

pub found_more : {X : Type 0} (xs ys : List X) (i : ℕ) (x : X) → slice_get xs i ≡ Some x → slice_get (xs ++ ys) i ≡ Some x
found_more [] ys i x h = cc
found_more (y ∷ xs) ys zero x h = h
found_more (y ∷ xs) ys (suc i) x h = found_more xs ys i x h

-- ---- widths of wires

pub wire_within : (net : List NetOp) (id width : ℕ) → HasWire net id width → id < length (widths_of net)
wire_within net id width h = slice_get_within (widths_of net) id width h.0

pub wire_width : (net : List NetOp) (id width : ℕ) → HasWire net id width → width_at (widths_of net) id ≡ width
wire_width net id width h = get_or_from_slice_get (widths_of net) id width 0 h.0

pub wire_inside : (net : List NetOp) (id width : ℕ) → HasWire net id width → id < length net
wire_inside net id width h = omega (arith, wire_within net id width h, length-one_by_one op_width [] net)

pub wire_from : (net : List NetOp) (id width : ℕ) → id < length net → 1 ≤ width → width_at (widths_of net) id ≡ width → HasWire net id width
wire_from net id width within some is = (slice_get-get_or (widths_of net) id 0 (omega (arith, length-one_by_one op_width [] net)) ∙ ap Some is, some)

pub wire_more : (old more : List NetOp) (id width : ℕ) → HasWire old id width → HasWire (old ++ more) id width
wire_more old more id width h =
    let within : id < length old = omega (arith, wire_within old id width h, length-one_by_one op_width [] old) in
    wire_from (old ++ more) id width (omega (arith, length-append old more)) h.1 (get_or-one_by_one-append op_width old more id 0 within ∙ wire_width old id width h)

-- a node has its operator's width
pub wire_of_op : (net : List NetOp) (id : ℕ) (op : NetOp) → IsNet net → slice_get net id ≡ Some op → HasWire net id (op_width (widths_of net) op)
wire_of_op ops id op net at =
    let within : id < length ops = slice_get_within ops id op at in
    let is : width_at (widths_of ops) id ≡ op_width (widths_of ops) op = node_width ops id op net at in
    wire_from ops id (op_width (widths_of ops) op) within (subst (λ (w : ℕ). 1 ≤ w) is (widths_of-Wide ops net id 0 (omega (arith, within, length-one_by_one op_width [] ops))).0) is

-- ---- growth

pub grows_not : (inputs : List ℕ) (net : List NetOp) → Grows inputs net net
grows_not inputs net = record { more = ([], sym (append-nil net)); reads = λ states h. h }

pub grows_on : (inputs : List ℕ) (a b c : List NetOp) → Grows inputs a b → Grows inputs b c → Grows inputs a c
grows_on inputs a b c g h = record {
  more = (g.more.0 ++ h.more.0, h.more.1 ∙ ap (λ (xs : List NetOp). xs ++ h.more.0) g.more.1 ∙ append_assoc a g.more.0 h.more.0);
  reads = λ states r. h.reads states (g.reads states r);
}

-- an operator that reads such inputs and no states is added
pub grows_by : (inputs : List ℕ) (old new : List NetOp) (op : NetOp) (id : ℕ) → Adds old op id new → ((states : List ℕ) → Reads inputs states op) → Grows inputs old new
grows_by inputs old new op id adds reads = by (cases_Bool (list_any (equal op) old))
  where
    by : (list_any (equal op) old ≡ true) ⊎ (list_any (equal op) old ≡ false) → Grows inputs old new
    by (inl there) = subst (λ (n : List NetOp). Grows inputs old n) (sym (adds.shared (contains_from_found old op there))) (grows_not inputs old)
    by (inr absent) =
        let last = adds.last (λ there. both_ways _ absent (found_from_contains old op there)) in
        record {
          more = (op ∷ [], last);
          reads = λ states r. subst (λ (n : List NetOp). AllRead inputs states n) (sym last) (All-push (Reads inputs states) old op r (reads states));
        }

-- ---- what keeps

pub wire_kept : (inputs : List ℕ) (old new : List NetOp) (id width : ℕ) → Grows inputs old new → HasWire old id width → HasWire new id width
wire_kept inputs old new id width g h = subst (λ (n : List NetOp). HasWire n id width) (sym g.more.1) (wire_more old g.more.0 id width h)

pub log_kept : (inputs : List ℕ) (old new : List NetOp) (widths : List ℕ) (log : LogWires) → Grows inputs old new → AreLogWires old widths log → AreLogWires new widths log
log_kept inputs old new widths log g are = record {
  was_read = are.was_read;
  was_written = are.was_written;
  values = are.values;
  each_read = λ port register p r. wire_kept inputs old new _ 1 g (are.each_read port register p r);
  each_written = λ port register p r. wire_kept inputs old new _ 1 g (are.each_written port register p r);
  each_value = λ port register width p h. wire_kept inputs old new _ width g (are.each_value port register width p h);
}

pub ports_kept : (inputs : List ℕ) (old new : List NetOp) (widths : List ℕ) (ports : PortWires) → Grows inputs old new → ArePortWires old widths ports → ArePortWires new widths ports
ports_kept inputs old new widths ports g are = record {
  count = are.count;
  each_start = λ register width h. wire_kept inputs old new _ width g (are.each_start register width h);
  log = log_kept inputs old new widths ports.log g are.log;
}

pub running_kept : (inputs : List ℕ) (old new : List NetOp) (widths : List ℕ) (run : RuleNet) → Grows inputs old new → IsRunning old widths run → IsRunning new widths run
running_kept inputs old new widths run g are = record { fires = wire_kept inputs old new run.fires 1 g are.fires; log = log_kept inputs old new widths run.log g are.log }

pub names_kept : (inputs : List ℕ) (old new : List NetOp) (widths wires : List ℕ) → Grows inputs old new → HaveWires old widths wires → HaveWires new widths wires
names_kept inputs old new [] [] g h = tt
names_kept inputs old new (width ∷ widths) (wire ∷ wires) g h = (wire_kept inputs old new wire width g h.0, names_kept inputs old new widths wires g h.1)
names_kept inputs old new [] (wire ∷ wires) g h = h
names_kept inputs old new (width ∷ widths) [] g h = h

pub fits_kept : (inputs : List ℕ) (old new : List NetOp) (width : ℕ) (wire : Option ℕ) → Grows inputs old new → WireFits old width wire → WireFits new width wire
fits_kept inputs old new width None g h = h
fits_kept inputs old new width (Some wire) g h = wire_kept inputs old new wire width g h

pub values_before : (s : Sources) (inputs : List ℕ) (old new : List NetOp) (values : List BitVector) → Grows inputs old new → AreValues s new values → AreValues s old values
values_before s inputs old new values g are = record {
  follow = λ id op at. are.follow id op (subst (λ (n : List NetOp). slice_get n id ≡ Some op) (sym g.more.1) (found_more old g.more.0 id op at));
  fit = λ id width h. are.fit id width (wire_kept inputs old new id width g h);
}

-- the values of a net are those of its beginnings
pub values_of_beginnings : (s : Sources) (net more : List NetOp) → IsNet (net ++ more) → Feeds s (net ++ more) → AreValues s net (values_of s (net ++ more))
values_of_beginnings s net more is feeds = record {
  follow = λ id op at. values-by_operators s (net ++ more) id op is (found_more net more id op at);
  fit = λ id width h.
      let values : List BitVector = values_of s (net ++ more) in
      let whole = wire_more net more id width h in
      let fit = values-widths s (net ++ more) is feeds in
      let count : length values ≡ length (widths_of (net ++ more)) = omega (arith, length-one_by_one (op_value s) [] (net ++ more), length-one_by_one op_width [] (net ++ more)) in (
        fit.1 id no_bits (omega (arith, count, wire_within (net ++ more) id width whole)),
        sym (width-value_at values id) ∙ ap (λ (ws : List ℕ). get_or ws id 0) fit.0 ∙ wire_width (net ++ more) id width whole,
      );
}
