use Rattle.std.proofs.Common.{◌≡◌, ◌<◌, ℕ, length, sym, subst, ap, ◌∙◌, List, arith, Some, refl, eqb-true}
use Rattle.std.specs.Prelude.{nat_eq, slice_get}
use Rattle.std.proofs.lemmas.Option.{slice_get_read}
use Rattle.kw_bits.specs.BitVector.{BitVector}
use Rattle.net_graph.specs.declared.node.NetOp.{NetOp}
use Rattle.net_graph.specs.declared.node.NetOp.TheVariants.{Const}
use Rattle.net_action.proofs.Growth.{wire_inside}
use Rattle.net_sched.proofs.log.is_down.Goals as goal

pub offset_bounds-ops-wire : goal.offset_bounds-ops-wire
offset_bounds-ops-wire c =
    let within = subst (λ (net : List NetOp). c.args.wire < length net) (sym c.ops.ensures.ops) (wire_inside c.args.net.now c.args.wire 1 c.requires) in
    omega (arith, within, c.ops.type_inv.1)

pub bounds-ops-wire : goal.bounds-ops-wire
bounds-ops-wire c = subst (λ (net : List NetOp). c.args.wire < length net) (sym c.ops.ensures.ops) (wire_inside c.args.net.now c.args.wire 1 c.requires)

pub returns-in-Const : goal.returns-in-Const
returns-in-Const c is s values are =
    let within = subst (λ (net : List NetOp). c.args.wire < length net) (sym c.ops.ensures.ops) (wire_inside c.args.net.now c.args.wire 1 c.requires) in
    let read : slice_get c.ops.result.now c.args.wire ≡ Some c.index-ops-wire.result = slice_get_read c.ops.result.now (length c.ops.result.now) c.args.wire c.index-ops-wire.result refl within c.index-ops-wire.is in
    let at : slice_get c.args.net.now c.args.wire ≡ Some (Const c.in-Const.value) = subst (λ (net : List NetOp). slice_get net c.args.wire ≡ Some (Const c.in-Const.value)) c.ops.ensures.ops (read ∙ ap Some c.in-Const.is) in
    let zero : c.in-Const.value.number ≡ 0 = sym c.number.ensures.number ∙ eqb-true c.number.result 0 is in
    ap (λ (v : BitVector). nat_eq v.number 1) (are.follow c.args.wire (Const c.in-Const.value) at) ∙ ap (λ (n : ℕ). nat_eq n 1) zero
