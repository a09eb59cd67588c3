-- An operator's value is a bit vector of the operator's width.
use Rattle.std.proofs.Common.{◌≡◌, ℕ, ◌+◌, ◌^◌, ◌<◌, ◌≤◌, Bool, true, false, cond, eqb, List, length, refl, sym, ◌∙◌, arith, lit<}
use Rattle.std.specs.Prelude.{slice_get, Some}
use Rattle.std.specs.List.{All}
use Rattle.std.proofs.Math.Nat.{pow-le-pow_right}
use Rattle.std.proofs.Math.ListN.{get_or-map}
use Rattle.std.proofs.lemmas.List.{length-map}
use Rattle.std.proofs.lemmas.Option.{get_or_from_slice_get, slice_get_within}
use Rattle.kw_bits.specs.BitVector.{BitVector, IsBitVector, IsBits}
use Rattle.kw_bits.specs.Laws.{HasWidth}
use Rattle.kw_bits.specs.Operators as op
use Rattle.kw_bits.proofs.OperatorLaws.{not-HasWidth, neg-HasWidth, and-HasWidth, or-HasWidth, xor-HasWidth, add-HasWidth, sub-HasWidth, mul-HasWidth, sll-HasWidth, srl-HasWidth, sra-HasWidth, redand-HasWidth, redor-HasWidth, redxor-HasWidth, eq_bits-HasWidth, ult-HasWidth, ulte-HasWidth, slt-HasWidth, slte-HasWidth, concat-HasWidth, slice-HasWidth, zext-HasWidth, sext-HasWidth}
use Rattle.net_graph.specs.Operators.{one_at, one_value, two_value, uext_value, sext_value, ite_value, one_width, two_width, TakesTwo}
use Rattle.net_graph.specs.Nets.{HoldsBits, op_width, Stands, width_at}
use Rattle.net_graph.specs.Values.{no_bits, op_value, Reads, Sources, value_at, widths}
use Rattle.net_graph.specs.declared.node.NetOne.{NetOne}
use Rattle.net_graph.specs.declared.node.NetOne.TheVariants.{Not, Neg, Inc, Dec, RedAnd, RedOr, RedXor}
use Rattle.net_graph.specs.declared.node.NetTwo.{NetTwo}
use Rattle.net_graph.specs.declared.node.NetTwo.TheVariants.{And, Or, Xor, Nand, Nor, Xnor, Add, Sub, Mul, Sll, Srl, Sra, EqBits, Neq, Ult, Ulte, Ugt, Ugte, Slt, Slte, Sgt, Sgte, Iff, Implies, Concat}
use Rattle.net_graph.specs.declared.node.NetOp.{NetOp}
use Rattle.net_graph.specs.declared.node.NetOp.TheVariants.{Const, Input, State, One, Two, Slice, Uext, Sext, Ite}

one_fits : (w : ℕ) → 1 ≤ w → 2 ^ 1 ≤ 2 ^ w
one_fits w some = pow-le-pow_right (lit< tt) some

-- the number 1 is one of each width
pub one_at-IsBits : (w : ℕ) → 1 ≤ w → w ≤ 128 → IsBitVector w 1
one_at-IsBits w some most = record { some_bit = some; no_wider = most; in_range = omega (arith, one_fits w some) }

one_value-HasWidth : (operator : NetOne) (a : BitVector) → IsBits a → HasWidth (one_value operator a) (one_width operator a.width)
unfolding one_value one_width
one_value-HasWidth Not a p = not-HasWidth a p
one_value-HasWidth Neg a p = neg-HasWidth a p
one_value-HasWidth Inc a p = add-HasWidth a (one_at a.width) p (one_at-IsBits a.width p.some_bit p.no_wider) refl
one_value-HasWidth Dec a p = sub-HasWidth a (one_at a.width) p (one_at-IsBits a.width p.some_bit p.no_wider) refl
one_value-HasWidth RedAnd a p = redand-HasWidth a p
one_value-HasWidth RedOr a p = redor-HasWidth a p
one_value-HasWidth RedXor a p = redxor-HasWidth a p

-- a bit vector that is turned keeps its width
turned : (a : BitVector) (w : ℕ) → HasWidth a w → HasWidth (op.not a) w
turned a w h = let kept = not-HasWidth a h.0 in (kept.0, kept.1 ∙ h.1)

two_value-HasWidth : (operator : NetTwo) (a b : BitVector) → IsBits a → IsBits b → TakesTwo operator a.width b.width → HasWidth (two_value operator a b) (two_width operator a.width b.width)
unfolding two_value two_width TakesTwo
two_value-HasWidth And a b p q t = and-HasWidth a b p q t
two_value-HasWidth Or a b p q t = or-HasWidth a b p q t
two_value-HasWidth Xor a b p q t = xor-HasWidth a b p q t
two_value-HasWidth Nand a b p q t = turned (op.and a b) a.width (and-HasWidth a b p q t)
two_value-HasWidth Nor a b p q t = turned (op.or a b) a.width (or-HasWidth a b p q t)
two_value-HasWidth Xnor a b p q t = turned (op.xor a b) a.width (xor-HasWidth a b p q t)
two_value-HasWidth Add a b p q t = add-HasWidth a b p q t
two_value-HasWidth Sub a b p q t = sub-HasWidth a b p q t
two_value-HasWidth Mul a b p q t = mul-HasWidth a b p q t
two_value-HasWidth Sll a b p q t = sll-HasWidth a b p q t
two_value-HasWidth Srl a b p q t = srl-HasWidth a b p q t
two_value-HasWidth Sra a b p q t = sra-HasWidth a b p q t
two_value-HasWidth EqBits a b p q t = eq_bits-HasWidth a b p q t
two_value-HasWidth Neq a b p q t = turned (op.eq_bits a b) 1 (eq_bits-HasWidth a b p q t)
two_value-HasWidth Ult a b p q t = ult-HasWidth a b p q t
two_value-HasWidth Ulte a b p q t = ulte-HasWidth a b p q t
two_value-HasWidth Ugt a b p q t = ult-HasWidth b a q p (sym t)
two_value-HasWidth Ugte a b p q t = ulte-HasWidth b a q p (sym t)
two_value-HasWidth Slt a b p q t = slt-HasWidth a b p q t
two_value-HasWidth Slte a b p q t = slte-HasWidth a b p q t
two_value-HasWidth Sgt a b p q t = slt-HasWidth b a q p (sym t)
two_value-HasWidth Sgte a b p q t = slte-HasWidth b a q p (sym t)
two_value-HasWidth Iff a b p q t = eq_bits-HasWidth a b p q (t.0 ∙ sym t.1)
two_value-HasWidth Implies a b p q t =
    let first = not-HasWidth a p in
    let kept = or-HasWidth (op.not a) b first.0 q (first.1 ∙ t.0 ∙ sym t.1) in
    (kept.0, kept.1 ∙ first.1 ∙ t.0)
two_value-HasWidth Concat a b p q t = concat-HasWidth a b p q t

ite_value-HasWidth : (condition a b : BitVector) → IsBits a → IsBits b → a.width ≡ b.width → HasWidth (ite_value condition a b) a.width
unfolding ite_value
ite_value-HasWidth condition a b p q same =
    elim (eqb condition.number 1) as (λ (holds : Bool). HasWidth (cond holds a b) a.width) [ true ↦ (p, refl) | false ↦ (q, sym same) ]

uext_value-HasWidth : (a : BitVector) (added : ℕ) → IsBits a → a.width + added ≤ 128 → HasWidth (uext_value a added) (a.width + added)
unfolding uext_value
uext_value-HasWidth a added p most = zext-HasWidth a (a.width + added) p (omega arith) most

sext_value-HasWidth : (a : BitVector) (added : ℕ) → IsBits a → a.width + added ≤ 128 → HasWidth (sext_value a added) (a.width + added)
unfolding sext_value
sext_value-HasWidth a added p most = sext-HasWidth a (a.width + added) p (omega arith) most

-- a value of a list has the width that the list of widths has there
pub width-value_at : (values : List BitVector) (id : ℕ) → width_at (widths values) id ≡ (value_at values id).width
width-value_at values id = get_or-map (λ (value : BitVector). value.width) values id no_bits

source-HasWidth : (values : List BitVector) (number width : ℕ) → All IsBits values → slice_get (widths values) number ≡ Some width → HasWidth (value_at values number) width
source-HasWidth values number width bits at =
    let within : number < length (widths values) = slice_get_within (widths values) number width at in
    (bits number no_bits (omega (arith, length-map values (λ (value : BitVector). value.width))), sym (width-value_at values number) ∙ get_or_from_slice_get (widths values) number width 0 at)

operand : (values : List BitVector) (id : ℕ) → All IsBits values → id < length (widths values) → IsBits (value_at values id)
operand values id bits within = bits id no_bits (omega (arith, length-map values (λ (value : BitVector). value.width)))

-- the value of an operator over bit vectors of the widths that it stands over
pub op_value-HasWidth : (s : Sources) (values : List BitVector) (op : NetOp) → All IsBits s.inputs → All IsBits s.states → All IsBits values → Stands (widths values) op → Reads (widths s.inputs) (widths s.states) op → HoldsBits op
    → HasWidth (op_value s values op) (op_width (widths values) op)
op_value-HasWidth s values (Const value) i t p stands reads constant = (constant, refl)
op_value-HasWidth s values (Input number width) i t p stands reads constant = source-HasWidth s.inputs number width i reads
op_value-HasWidth s values (State number width) i t p stands reads constant = source-HasWidth s.states number width t reads
op_value-HasWidth s values (One operator a) i t p stands reads constant =
    rw (width-value_at values a) (one_value-HasWidth operator (value_at values a) (operand values a p stands))
op_value-HasWidth s values (Two operator a b) i t p stands reads constant =
    let x : BitVector = value_at values a in
    let y : BitVector = value_at values b in
    let takes : TakesTwo operator x.width y.width = rw (width-value_at values a, width-value_at values b) at stands.2 in
    rw (width-value_at values a, width-value_at values b) (two_value-HasWidth operator x y (operand values a p stands.0) (operand values b p stands.1) takes)
op_value-HasWidth s values (Slice a upper lower) i t p stands reads constant =
    slice-HasWidth (value_at values a) upper lower (operand values a p stands.0) stands.1 (rw (width-value_at values a) at stands.2)
op_value-HasWidth s values (Uext a added) i t p stands reads constant =
    rw (width-value_at values a) (uext_value-HasWidth (value_at values a) added (operand values a p stands.0) (rw (width-value_at values a) at stands.1))
op_value-HasWidth s values (Sext a added) i t p stands reads constant =
    rw (width-value_at values a) (sext_value-HasWidth (value_at values a) added (operand values a p stands.0) (rw (width-value_at values a) at stands.1))
op_value-HasWidth s values (Ite condition a b) i t p stands reads constant =
    rw (width-value_at values a) (ite_value-HasWidth (value_at values condition) (value_at values a) (value_at values b) (operand values a p stands.1) (operand values b p stands.2) (rw (width-value_at values a, width-value_at values b) at stands.4))
