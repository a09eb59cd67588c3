-- What gates make of the values of wires.
use Rattle.std.proofs.Common.{◌≡◌, ℕ, ◌+◌, Bool, true, false, List, [], refl, ap, ap₂, subst, ◌∙◌}
use Rattle.std.specs.Prelude.{◌&&◌, ◌||◌, not, nat_eq, slice_get, Some, if◌then◌else◌}
use Rattle.kw_bits.specs.BitVector.{BitVector}
use Rattle.kw_bits.specs.Laws.{HasWidth}
use Rattle.kw_bits.specs.Operators as op
use Rattle.kw_bits.proofs.OperatorLaws.{flag_logic, one_bit-flag}
use Rattle.net_graph.specs.Nets.{op_width, width_at, widths_of}
use Rattle.net_graph.specs.Operators.{one_value, one_width, two_value, two_width, uext_value, sext_value, ite_value}
use Rattle.net_graph.specs.Values.{value_at}
use Rattle.net_graph.specs.declared.node.NetOne.{NetOne}
use Rattle.net_graph.specs.declared.node.NetTwo.{NetTwo}
use Rattle.net_graph.specs.declared.node.NetOne.TheVariants.{Not}
use Rattle.net_graph.specs.declared.node.NetTwo.TheVariants.{And, Or}
use Rattle.net_graph.specs.declared.node.NetOp.{NetOp}
use Rattle.net_graph.specs.declared.node.NetOp.TheVariants.{One, Two, Uext, Sext, Ite}
use Rattle.net_action.specs.Gates.{Grows, HasValue, IsUp}
use Rattle.net_action.specs.Wires.{HasWire, is_up}
use Rattle.net_action.proofs.Growth.{wire_kept, wire_width}

flag_up : (b : Bool) → nat_eq (op.flag b).number 1 ≡ b
unfolding op.flag
flag_up true = refl
flag_up false = refl

abbrev up : BitVector → Bool
up x = nat_eq x.number 1

and_up : (x y : BitVector) → HasWidth x 1 → HasWidth y 1 → up (op.and x y) ≡ (up x && up y)
and_up x y h k =
    ap₂ (λ (a b : BitVector). up (op.and a b)) (one_bit-flag x h.0 h.1) (one_bit-flag y k.0 k.1)
    ∙ ap up (flag_logic (up x) (up y)).1 ∙ flag_up (up x && up y)

or_up : (x y : BitVector) → HasWidth x 1 → HasWidth y 1 → up (op.or x y) ≡ (up x || up y)
or_up x y h k =
    ap₂ (λ (a b : BitVector). up (op.or a b)) (one_bit-flag x h.0 h.1) (one_bit-flag y k.0 k.1)
    ∙ ap up (flag_logic (up x) (up y)).2 ∙ flag_up (up x || up y)

not_up : (x : BitVector) → HasWidth x 1 → up (op.not x) ≡ not (up x)
not_up x h =
    ap (λ (a : BitVector). up (op.not a)) (one_bit-flag x h.0 h.1)
    ∙ ap up (flag_logic (up x) false).0 ∙ flag_up (not (up x))

-- ---- a node that was added to a net

module _ (old new : List NetOp) (grows : (inputs : List ℕ) → Grows inputs old new) (id : ℕ) where
  abbrev IsOp : NetOp → Type 0
  IsOp op = slice_get new id ≡ Some op

  abbrev IsWide : NetOp → Type 0
  IsWide op = HasWire new id (op_width (widths_of new) op)

  kept : (a width : ℕ) → HasWire old a width → HasWire new a width
  kept a width h = wire_kept [] old new a width (grows []) h

  width_is : (a width : ℕ) → HasWire old a width → width_at (widths_of new) a ≡ width
  width_is a width h = wire_width new a width (kept a width h)

  -- an operator that has the width of its first operand
  pub and_wire : (a b width : ℕ) → HasWire old a width → IsWide (Two And a b) → HasWire new id width
  unfolding two_width
  and_wire a b width h wide = subst (λ (w : ℕ). HasWire new id w) (width_is a width h) wide

  pub or_wire : (a b width : ℕ) → HasWire old a width → IsWide (Two Or a b) → HasWire new id width
  unfolding two_width
  or_wire a b width h wide = subst (λ (w : ℕ). HasWire new id w) (width_is a width h) wide

  pub not_wire : (a width : ℕ) → HasWire old a width → IsWide (One Not a) → HasWire new id width
  unfolding one_width
  not_wire a width h wide = subst (λ (w : ℕ). HasWire new id w) (width_is a width h) wide

  pub ite_wire : (c a b width : ℕ) → HasWire old a width → IsWide (Ite c a b) → HasWire new id width
  ite_wire c a b width h wide = subst (λ (w : ℕ). HasWire new id w) (width_is a width h) wide

  pub and_is_up : (a b : ℕ) → HasWire old a 1 → HasWire old b 1 → IsOp (Two And a b) → IsUp new (λ values. is_up values a && is_up values b) id
  unfolding two_value
  and_is_up a b h k is s values are =
      ap up (are.follow id (Two And a b) is) ∙ and_up (value_at values a) (value_at values b) (are.fit a 1 (kept a 1 h)) (are.fit b 1 (kept b 1 k))

  pub or_is_up : (a b : ℕ) → HasWire old a 1 → HasWire old b 1 → IsOp (Two Or a b) → IsUp new (λ values. is_up values a || is_up values b) id
  unfolding two_value
  or_is_up a b h k is s values are =
      ap up (are.follow id (Two Or a b) is) ∙ or_up (value_at values a) (value_at values b) (are.fit a 1 (kept a 1 h)) (are.fit b 1 (kept b 1 k))

  pub not_is_up : (a : ℕ) → HasWire old a 1 → IsOp (One Not a) → IsUp new (λ values. not (is_up values a)) id
  unfolding one_value
  not_is_up a h is s values are =
      ap up (are.follow id (One Not a) is) ∙ not_up (value_at values a) (are.fit a 1 (kept a 1 h))

  pub ite_value_is : (c a b : ℕ) → IsOp (Ite c a b) → HasValue new (λ values. if is_up values c then value_at values a else value_at values b) id
  unfolding ite_value
  ite_value_is c a b is s values are = are.follow id (Ite c a b) is

  -- ---- operators of actions

  pub one_wire : (operator : NetOne) (x operand width : ℕ) → HasWire old x operand → one_width operator operand ≡ width → IsWide (One operator x) → HasWire new id width
  one_wire operator x operand width h e wide = subst (λ (w : ℕ). HasWire new id w) (ap (one_width operator) (width_is x operand h) ∙ e) wide

  pub two_wire : (operator : NetTwo) (x y left right width : ℕ) → HasWire old x left → HasWire old y right → two_width operator left right ≡ width → IsWide (Two operator x y) → HasWire new id width
  two_wire operator x y left right width h k e wide =
      subst (λ (w : ℕ). HasWire new id w) (ap₂ (two_width operator) (width_is x left h) (width_is y right k) ∙ e) wide

  pub uext_wire : (x operand more to : ℕ) → HasWire old x operand → operand + more ≡ to → IsWide (Uext x more) → HasWire new id to
  uext_wire x operand more to h e wide = subst (λ (w : ℕ). HasWire new id w) (ap (λ (w : ℕ). w + more) (width_is x operand h) ∙ e) wide

  pub sext_wire : (x operand more to : ℕ) → HasWire old x operand → operand + more ≡ to → IsWide (Sext x more) → HasWire new id to
  sext_wire x operand more to h e wide = subst (λ (w : ℕ). HasWire new id w) (ap (λ (w : ℕ). w + more) (width_is x operand h) ∙ e) wide

  pub uext_is : (x operand more to : ℕ) → HasWire old x operand → operand + more ≡ to → IsOp (Uext x more) → HasValue new (λ values. op.zext (value_at values x) to) id
  unfolding uext_value
  uext_is x operand more to h e is s values are =
      are.follow id (Uext x more) is ∙ ap (λ (w : ℕ). op.zext (value_at values x) w) (ap (λ (w : ℕ). w + more) (are.fit x operand (kept x operand h)).1 ∙ e)

  pub sext_is : (x operand more to : ℕ) → HasWire old x operand → operand + more ≡ to → IsOp (Sext x more) → HasValue new (λ values. op.sext (value_at values x) to) id
  unfolding sext_value
  sext_is x operand more to h e is s values are =
      are.follow id (Sext x more) is ∙ ap (λ (w : ℕ). op.sext (value_at values x) w) (ap (λ (w : ℕ). w + more) (are.fit x operand (kept x operand h)).1 ∙ e)
