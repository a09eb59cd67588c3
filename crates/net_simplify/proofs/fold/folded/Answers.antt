use Rattle.std.proofs.Common.{◌≡◌, ℕ, ◌<◌, List, length, get_or, refl, sym, subst, lit<}
use Rattle.std.specs.Prelude.{IfNone, None, Option, Some}
use Rattle.kw_bits.specs.BitVector.{BitVector}
use Rattle.net_graph.specs.Nets.{Stands, widths_of}
use Rattle.net_graph.specs.declared.node.NetOp.{NetOp}
use Rattle.net_graph.specs.declared.node.NetOp.TheVariants.{One, Two, Slice, Uext, Sext, Ite}
use Rattle.circuit_eval.specs.Tidy.{IsConstant, IsOpen, operands}
use Rattle.net_simplify.specs.inner.Forms.{Equals}
use Rattle.net_simplify.specs.declared.form.Form.TheVariants.{Constant}
use Rattle.net_simplify.proofs.Folding.{ite-folds, ite_stands, one-folds, sext-folds, sext_stands, slice-folds, slice_stands, two-folds, two_stands, uext-folds, uext_stands}
use Rattle.net_simplify.proofs.Standing.{within_node}
use Rattle.net_simplify.proofs.fold.folded.Goals as goal

-- the operator on this stands where the operator that is it does
taken : (net : List NetOp) (op other : NetOp) → op ≡ other → Stands (widths_of net) op → Stands (widths_of net) other
taken net op other e h = subst (λ (o : NetOp). Stands (widths_of net) o) e h

-- an operand that is no constant
open_at : (net : List NetOp) (op other : NetOp) (k a : ℕ) → op ≡ other → k < length (operands other) → get_or (operands other) k 0 ≡ a → ¬ IsConstant net a → IsOpen net op
open_at net op other k a e within is not = subst (λ (o : NetOp). IsOpen net o) (sym e) (λ some all. not (subst (IsConstant net) is (all k 0 within)))

if_none : (o : Option BitVector) (P : Type 0) → P → IfNone o P
if_none (Some x) P p = tt
if_none None P p = p

pub constant_at-requires : goal.constant_at-requires
constant_at-requires c = within_node c.args.net.now c.requires.net c.in-One.a (taken c.args.net.now c.args.op.now (One c.in-One.operator c.in-One.a) c.in-One.is c.requires.stands)

pub constant_at-requires-in-Slice : goal.constant_at-requires-in-Slice
constant_at-requires-in-Slice c = within_node c.args.net.now c.requires.net c.in-Slice.a (taken c.args.net.now c.args.op.now (Slice c.in-Slice.a c.in-Slice.upper c.in-Slice.lower) c.in-Slice.is c.requires.stands).0

pub value_of-requires-in-Slice-clause-stands : goal.value_of-requires-in-Slice-clause-stands
value_of-requires-in-Slice-clause-stands c = slice_stands c.args.net.now c.requires.net c.in-Slice.a c.in-Slice.upper c.in-Slice.lower c.in_ok-x-in-Slice.x c.in_ok-x-in-Slice.ensures.some (taken c.args.net.now c.args.op.now (Slice c.in-Slice.a c.in-Slice.upper c.in-Slice.lower) c.in-Slice.is c.requires.stands)

pub constant_at-requires-in-Uext : goal.constant_at-requires-in-Uext
constant_at-requires-in-Uext c = within_node c.args.net.now c.requires.net c.in-Uext.a (taken c.args.net.now c.args.op.now (Uext c.in-Uext.a c.in-Uext.added) c.in-Uext.is c.requires.stands).0

pub value_of-requires-in-Uext-clause-stands : goal.value_of-requires-in-Uext-clause-stands
value_of-requires-in-Uext-clause-stands c = uext_stands c.args.net.now c.requires.net c.in-Uext.a c.in-Uext.added c.in_ok-x-in-Uext.x c.in_ok-x-in-Uext.ensures.some (taken c.args.net.now c.args.op.now (Uext c.in-Uext.a c.in-Uext.added) c.in-Uext.is c.requires.stands)

pub constant_at-requires-in-Sext : goal.constant_at-requires-in-Sext
constant_at-requires-in-Sext c = within_node c.args.net.now c.requires.net c.in-Sext.a (taken c.args.net.now c.args.op.now (Sext c.in-Sext.a c.in-Sext.added) c.in-Sext.is c.requires.stands).0

pub value_of-requires-in-Sext-clause-stands : goal.value_of-requires-in-Sext-clause-stands
value_of-requires-in-Sext-clause-stands c = sext_stands c.args.net.now c.requires.net c.in-Sext.a c.in-Sext.added c.in_ok-x-in-Sext.x c.in_ok-x-in-Sext.ensures.some (taken c.args.net.now c.args.op.now (Sext c.in-Sext.a c.in-Sext.added) c.in-Sext.is c.requires.stands)

pub constant_at-requires-in-Two : goal.constant_at-requires-in-Two
constant_at-requires-in-Two c = within_node c.args.net.now c.requires.net c.in-Two.a (taken c.args.net.now c.args.op.now (Two c.in-Two.operator c.in-Two.a c.in-Two.b) c.in-Two.is c.requires.stands).0

pub constant_at-requires-in-Two-2 : goal.constant_at-requires-in-Two-2
constant_at-requires-in-Two-2 c = within_node c.args.net.now c.requires.net c.in-Two.b (taken c.args.net.now c.args.op.now (Two c.in-Two.operator c.in-Two.a c.in-Two.b) c.in-Two.is c.requires.stands).1

pub returns-in_err-y-in-Two-clause-none : goal.returns-in_err-y-in-Two-clause-none
returns-in_err-y-in-Two-clause-none c = if_none c.from_residual-in_err-y-in-Two.result (IsOpen c.args.net.now c.args.op.now) (open_at c.args.net.now c.args.op.now (Two c.in-Two.operator c.in-Two.a c.in-Two.b) 1 c.in-Two.b c.in-Two.is (lit< tt) refl c.in_err-y-in-Two.ensures.none)

pub value_of-requires-in-Two-clause-stands : goal.value_of-requires-in-Two-clause-stands
value_of-requires-in-Two-clause-stands c = two_stands c.args.net.now c.requires.net c.in-Two.operator c.in-Two.a c.in-Two.b c.in_ok-x-in-Two.x c.in_ok-y-in-Two.y c.in_ok-x-in-Two.ensures.some c.in_ok-y-in-Two.ensures.some (taken c.args.net.now c.args.op.now (Two c.in-Two.operator c.in-Two.a c.in-Two.b) c.in-Two.is c.requires.stands)

pub constant_at-requires-in-Ite : goal.constant_at-requires-in-Ite
constant_at-requires-in-Ite c = within_node c.args.net.now c.requires.net c.in-Ite.condition (taken c.args.net.now c.args.op.now (Ite c.in-Ite.condition c.in-Ite.a c.in-Ite.b) c.in-Ite.is c.requires.stands).0

pub constant_at-requires-in-Ite-2 : goal.constant_at-requires-in-Ite-2
constant_at-requires-in-Ite-2 c = within_node c.args.net.now c.requires.net c.in-Ite.a (taken c.args.net.now c.args.op.now (Ite c.in-Ite.condition c.in-Ite.a c.in-Ite.b) c.in-Ite.is c.requires.stands).1

pub constant_at-requires-in-Ite-3 : goal.constant_at-requires-in-Ite-3
constant_at-requires-in-Ite-3 c = within_node c.args.net.now c.requires.net c.in-Ite.b (taken c.args.net.now c.args.op.now (Ite c.in-Ite.condition c.in-Ite.a c.in-Ite.b) c.in-Ite.is c.requires.stands).2

pub returns-in_err-x-in-Ite-clause-none : goal.returns-in_err-x-in-Ite-clause-none
returns-in_err-x-in-Ite-clause-none c = if_none c.from_residual-in_err-x-in-Ite.result (IsOpen c.args.net.now c.args.op.now) (open_at c.args.net.now c.args.op.now (Ite c.in-Ite.condition c.in-Ite.a c.in-Ite.b) 1 c.in-Ite.a c.in-Ite.is (lit< tt) refl c.in_err-x-in-Ite.ensures.none)

pub returns-in_err-y-in-Ite-clause-none : goal.returns-in_err-y-in-Ite-clause-none
returns-in_err-y-in-Ite-clause-none c = if_none c.from_residual-in_err-y-in-Ite.result (IsOpen c.args.net.now c.args.op.now) (open_at c.args.net.now c.args.op.now (Ite c.in-Ite.condition c.in-Ite.a c.in-Ite.b) 2 c.in-Ite.b c.in-Ite.is (lit< tt) refl c.in_err-y-in-Ite.ensures.none)

pub value_of-requires-in-Ite-clause-stands : goal.value_of-requires-in-Ite-clause-stands
value_of-requires-in-Ite-clause-stands c = ite_stands c.args.net.now c.requires.net c.in-Ite.condition c.in-Ite.a c.in-Ite.b c.in_ok-c-in-Ite.c c.in_ok-x-in-Ite.x c.in_ok-y-in-Ite.y c.in_ok-c-in-Ite.ensures.some c.in_ok-x-in-Ite.ensures.some c.in_ok-y-in-Ite.ensures.some (taken c.args.net.now c.args.op.now (Ite c.in-Ite.condition c.in-Ite.a c.in-Ite.b) c.in-Ite.is c.requires.stands)

pub returns-in_ok-x-in-One-clause-some : goal.returns-in_ok-x-in-One-clause-some
returns-in_ok-x-in-One-clause-some c = subst (λ (o : NetOp). Equals c.args.net.now o (Constant c.value_of.result)) (sym c.in-One.is) (one-folds c.args.net.now c.requires.net c.in-One.operator c.in-One.a c.in_ok-x-in-One.x c.value_of.result c.in_ok-x-in-One.ensures.some c.value_of.ensures)

pub returns-in_ok-x-in-Slice-clause-some : goal.returns-in_ok-x-in-Slice-clause-some
returns-in_ok-x-in-Slice-clause-some c = subst (λ (o : NetOp). Equals c.args.net.now o (Constant c.value_of-in-Slice.result)) (sym c.in-Slice.is) (slice-folds c.args.net.now c.requires.net c.in-Slice.a c.in-Slice.upper c.in-Slice.lower c.in_ok-x-in-Slice.x c.value_of-in-Slice.result c.in_ok-x-in-Slice.ensures.some (taken c.args.net.now c.args.op.now (Slice c.in-Slice.a c.in-Slice.upper c.in-Slice.lower) c.in-Slice.is c.requires.stands) c.value_of-in-Slice.ensures)

pub returns-in_ok-x-in-Uext-clause-some : goal.returns-in_ok-x-in-Uext-clause-some
returns-in_ok-x-in-Uext-clause-some c = subst (λ (o : NetOp). Equals c.args.net.now o (Constant c.value_of-in-Uext.result)) (sym c.in-Uext.is) (uext-folds c.args.net.now c.requires.net c.in-Uext.a c.in-Uext.added c.in_ok-x-in-Uext.x c.value_of-in-Uext.result c.in_ok-x-in-Uext.ensures.some (taken c.args.net.now c.args.op.now (Uext c.in-Uext.a c.in-Uext.added) c.in-Uext.is c.requires.stands) c.value_of-in-Uext.ensures)

pub returns-in_ok-x-in-Sext-clause-some : goal.returns-in_ok-x-in-Sext-clause-some
returns-in_ok-x-in-Sext-clause-some c = subst (λ (o : NetOp). Equals c.args.net.now o (Constant c.value_of-in-Sext.result)) (sym c.in-Sext.is) (sext-folds c.args.net.now c.requires.net c.in-Sext.a c.in-Sext.added c.in_ok-x-in-Sext.x c.value_of-in-Sext.result c.in_ok-x-in-Sext.ensures.some (taken c.args.net.now c.args.op.now (Sext c.in-Sext.a c.in-Sext.added) c.in-Sext.is c.requires.stands) c.value_of-in-Sext.ensures)

pub returns-in_ok-y-in-Two-clause-some : goal.returns-in_ok-y-in-Two-clause-some
returns-in_ok-y-in-Two-clause-some c = subst (λ (o : NetOp). Equals c.args.net.now o (Constant c.value_of-in-Two.result)) (sym c.in-Two.is) (two-folds c.args.net.now c.requires.net c.in-Two.operator c.in-Two.a c.in-Two.b c.in_ok-x-in-Two.x c.in_ok-y-in-Two.y c.value_of-in-Two.result c.in_ok-x-in-Two.ensures.some c.in_ok-y-in-Two.ensures.some (taken c.args.net.now c.args.op.now (Two c.in-Two.operator c.in-Two.a c.in-Two.b) c.in-Two.is c.requires.stands) c.value_of-in-Two.ensures)

pub returns-in_ok-y-in-Ite-clause-some : goal.returns-in_ok-y-in-Ite-clause-some
returns-in_ok-y-in-Ite-clause-some c = subst (λ (o : NetOp). Equals c.args.net.now o (Constant c.value_of-in-Ite.result)) (sym c.in-Ite.is) (ite-folds c.args.net.now c.requires.net c.in-Ite.condition c.in-Ite.a c.in-Ite.b c.in_ok-c-in-Ite.c c.in_ok-x-in-Ite.x c.in_ok-y-in-Ite.y c.value_of-in-Ite.result c.in_ok-c-in-Ite.ensures.some c.in_ok-x-in-Ite.ensures.some c.in_ok-y-in-Ite.ensures.some (taken c.args.net.now c.args.op.now (Ite c.in-Ite.condition c.in-Ite.a c.in-Ite.b) c.in-Ite.is c.requires.stands) c.value_of-in-Ite.ensures)
