-- Nets that are laid out: where the operands of a node stand, and what their values are.
use Rattle.std.proofs.Common.{◌≡◌, ℕ, ◌+◌, ◌<◌, ◌≤◌, List, [], length, get_or, take, sym, ap, subst, ◌∙◌, arith}
use Rattle.std.specs.Prelude.{◌≢◌, Bool, if◌then◌else◌, nat_eq, Some}
use Rattle.std.proofs.lemmas.Bool.{ne_eqb}
use Rattle.std.proofs.lemmas.List.{get_or-take, length-map, length-take-le}
use Rattle.std.proofs.lemmas.Option.{get_or_from_slice_get, slice_get-get_or, slice_get_within}
use Rattle.kw_bits.specs.BitVector.{BitVector}
use Rattle.kw_bits.specs.Laws.{HasWidth}
use Rattle.net_graph.specs.Laws.{Feeds}
use Rattle.net_graph.specs.Nets.{IsNet, op_width, Stands, width_at, widths_of}
use Rattle.net_graph.specs.Operators.{ite_value, TakesTwo, two_value}
use Rattle.net_graph.specs.Values.{no_bits, node_value, op_value, Sources, value_at, values_of, widths}
use Rattle.net_graph.specs.declared.node.NetOne.{NetOne}
use Rattle.net_graph.specs.declared.node.NetTwo.{NetTwo}
use Rattle.net_graph.specs.declared.node.NetOp.{NetOp}
use Rattle.net_graph.specs.declared.node.NetOp.TheVariants.{One, Two, Slice, Uext, Sext, Ite}
use Rattle.net_graph.proofs.OneByOne.{length-one_by_one}
use Rattle.net_graph.proofs.OperatorWidths.{width-value_at}
use Rattle.net_graph.proofs.Standing.{stands_at}
use Rattle.net_graph.proofs.Values.{values-by_operators, values-widths}
use Rattle.circuit_eval.specs.Programs.{Has, HasRoom, node_width}
use Rattle.circuit_eval.specs.inner.Programs.{Keeps}

-- an operator stands over the nodes before it
pub stands : (net : List NetOp) (id : ℕ) (op : NetOp) → IsNet net → Has net id op → Stands (take id (widths_of net)) op
stands net id op valid has =
    subst (λ (o : NetOp). Stands (take id (widths_of net)) o) (get_or_from_slice_get net id op op has) (stands_at net id op (slice_get_within net id op has) valid.stand)

-- an operand is a node before it, of the width that it stands at
pub record IsOperand (net : List NetOp) (id a : ℕ) : Type 0 where
  pub before : a < id
  pub within : a < length net
  pub width : get_or (take id (widths_of net)) a 0 ≡ node_width net a

operand : (net : List NetOp) (id a : ℕ) (op : NetOp) → Has net id op → a < length (take id (widths_of net)) → IsOperand net id a
operand net id a op has p =
    let inside : id < length net = slice_get_within net id op has in
    let count : length (take id (widths_of net)) ≡ id = length-take-le id (widths_of net) (omega (arith, inside, length-one_by_one op_width [] net)) in
    record { before = omega (arith, p, count); within = omega (arith, p, count, inside); width = get_or-take id (widths_of net) a 0 (omega (arith, p, count)) }

pub of_one : (net : List NetOp) (id a : ℕ) (operator : NetOne) → IsNet net → Has net id (One operator a) → IsOperand net id a
of_one net id a operator valid has = operand net id a (One operator a) has (stands net id (One operator a) valid has)

pub record AreOperands (net : List NetOp) (id : ℕ) (operator : NetTwo) (a b : ℕ) : Type 0 where
  pub first : IsOperand net id a
  pub second : IsOperand net id b
  pub takes : TakesTwo operator (node_width net a) (node_width net b)

pub of_two : (net : List NetOp) (id a b : ℕ) (operator : NetTwo) → IsNet net → Has net id (Two operator a b) → AreOperands net id operator a b
of_two net id a b operator valid has =
    let p = stands net id (Two operator a b) valid has in
    let x = operand net id a (Two operator a b) has p.0 in
    let y = operand net id b (Two operator a b) has p.1 in
    record { first = x; second = y; takes = subst (λ (v : ℕ). TakesTwo operator (node_width net a) v) y.width (subst (λ (w : ℕ). TakesTwo operator w (get_or (take id (widths_of net)) b 0)) x.width p.2) }

pub of_slice : (net : List NetOp) (id a upper lower : ℕ) → IsNet net → Has net id (Slice a upper lower) → IsOperand net id a × (lower ≤ upper) × (upper < node_width net a)
of_slice net id a upper lower valid has =
    let p = stands net id (Slice a upper lower) valid has in
    let x = operand net id a (Slice a upper lower) has p.0 in
    (x, p.1, subst (λ (w : ℕ). upper < w) x.width p.2)

pub of_uext : (net : List NetOp) (id a added : ℕ) → IsNet net → Has net id (Uext a added) → IsOperand net id a × (node_width net a + added ≤ 128)
of_uext net id a added valid has =
    let p = stands net id (Uext a added) valid has in
    let x = operand net id a (Uext a added) has p.0 in
    (x, subst (λ (w : ℕ). w + added ≤ 128) x.width p.1)

pub of_sext : (net : List NetOp) (id a added : ℕ) → IsNet net → Has net id (Sext a added) → IsOperand net id a × (node_width net a + added ≤ 128)
of_sext net id a added valid has =
    let p = stands net id (Sext a added) valid has in
    let x = operand net id a (Sext a added) has p.0 in
    (x, subst (λ (w : ℕ). w + added ≤ 128) x.width p.1)

pub record AreChoices (net : List NetOp) (id condition a b : ℕ) : Type 0 where
  pub chooser : IsOperand net id condition
  pub first : IsOperand net id a
  pub second : IsOperand net id b
  pub one_bit : node_width net condition ≡ 1
  pub same : node_width net a ≡ node_width net b

pub of_ite : (net : List NetOp) (id condition a b : ℕ) → IsNet net → Has net id (Ite condition a b) → AreChoices net id condition a b
of_ite net id condition a b valid has =
    let p = stands net id (Ite condition a b) valid has in
    let c = operand net id condition (Ite condition a b) has p.0 in
    let x = operand net id a (Ite condition a b) has p.1 in
    let y = operand net id b (Ite condition a b) has p.2 in
    record { chooser = c; first = x; second = y; one_bit = sym c.width ∙ p.3; same = sym x.width ∙ p.4 ∙ y.width }

-- a node's value is a bit vector of its width
pub fits : (s : Sources) (net : List NetOp) (id : ℕ) → IsNet net → Feeds s net → id < length net → HasWidth (node_value s net id) (node_width net id)
fits s net id valid feeds within =
    let all = values-widths s net valid feeds in
    (all.1 id no_bits (omega (arith, within, length-one_by_one (op_value s) [] net)), sym (width-value_at (values_of s net) id) ∙ ap (λ (ws : List ℕ). get_or ws id 0) all.0)

-- and that of its operator
pub by_operator : (s : Sources) (net : List NetOp) (id : ℕ) (op : NetOp) → IsNet net → Has net id op → node_value s net id ≡ op_value s (values_of s net) op
by_operator s net id op valid has = values-by_operators s net id op valid has

-- the operator that stands at a place
pub here : (net items : List NetOp) (id : ℕ) (op shown : NetOp) → items ≡ net → id < length net → op ≡ get_or items id op → op ≡ shown → Has net id shown
here net items id op shown same within is e =
    slice_get-get_or net id op within ∙ ap Some (sym (is ∙ ap (λ (xs : List NetOp). get_or xs id op) same) ∙ e)

-- a choice, by its condition
pub taken : (condition x y : BitVector) → condition.number ≡ 1 → ite_value condition x y ≡ x
unfolding ite_value
taken condition x y e = ap (λ (n : ℕ). if nat_eq n 1 then x else y) e

pub passed : (condition x y : BitVector) → condition.number ≢ 1 → ite_value condition x y ≡ y
unfolding ite_value
passed condition x y e = ap (λ (b : Bool). if b then x else y) (ne_eqb condition.number 1 e)

-- two wide operands stand where their values are kept, and the operator gives the node's value there
pub wide_operands : (s : Sources) (net : List NetOp) (words : List ℕ) (wides : List BitVector) (id a b : ℕ) (operator : NetTwo) → IsNet net → HasRoom net words wides → Keeps net words wides (values_of s net) id
    → Has net id (Two operator a b) → 64 < node_width net a → 64 < node_width net b → Stands (widths wides) (Two operator a b) × (op_value s wides (Two operator a b) ≡ node_value s net id)
wide_operands s net words wides id a b operator valid room keeps has wide_a wide_b =
    let o = of_two net id a b operator valid has in
    let x = keeps a o.first.before in
    let y = keeps b o.second.before in
    let count : length (widths wides) ≡ length wides = length-map wides (λ (value : BitVector). value.width) in
    let width_a : node_width net a ≡ width_at (widths wides) a = sym x.fits.1 ∙ ap (λ (v : BitVector). v.width) (sym (x.wide wide_a)) ∙ sym (width-value_at wides a) in
    let width_b : node_width net b ≡ width_at (widths wides) b = sym y.fits.1 ∙ ap (λ (v : BitVector). v.width) (sym (y.wide wide_b)) ∙ sym (width-value_at wides b) in
    let takes : TakesTwo operator (width_at (widths wides) a) (width_at (widths wides) b) = subst (λ (v : ℕ). TakesTwo operator (width_at (widths wides) a) v) width_b (subst (λ (w : ℕ). TakesTwo operator w (node_width net b)) width_a o.takes) in
    let there : Stands (widths wides) (Two operator a b) = (omega (arith, count, room.wide a o.first.within wide_a), omega (arith, count, room.wide b o.second.within wide_b), takes) in
    let same : op_value s wides (Two operator a b) ≡ op_value s (values_of s net) (Two operator a b) = ap (λ (v : BitVector). two_value operator v (value_at wides b)) (x.wide wide_a) ∙ ap (λ (v : BitVector). two_value operator (value_at (values_of s net) a) v) (y.wide wide_b) in
    (there, same ∙ sym (by_operator s net id (Two operator a b) valid has))
