use Rattle.std.proofs.Common.{◌≡◌, ◌+◌, ◌<◌, List, length, refl, sym, ap, subst, ◌∙◌, ℕ}
use Rattle.std.specs.Prelude.{slice_get, Some}
use Rattle.std.specs.List.{All}
use Rattle.std.proofs.lemmas.Option.{slice_get_read}
use Rattle.net_graph.specs.Nets.{Stands, widths_of}
use Rattle.net_graph.specs.declared.node.NetOp.{NetOp}
use Rattle.circuit_eval.specs.Tidy.{operands}
use Rattle.net_simplify.specs.inner.Passes.{Gains, nth, Reduces, renamed}
use Rattle.net_simplify.proofs.Reducing.{next_stands, operands_placed, reduces-more}
use Rattle.net_simplify.proofs.reduced.reduced.Goals as goal

pub renamed-requires : goal.renamed-requires
renamed-requires c =
    let at : slice_get c.args.ops.now c.loop-op.op-index ≡ Some c.op-item.result = slice_get_read c.args.ops.now (length c.args.ops.now) c.loop-op.op-index c.op-item.result refl c.loop-op-test.true c.op-item.is in
    subst (λ (xs : List ℕ). All (λ a. a < length xs) (operands c.op-item.result)) (sym c.deref.ensures.value)
    (operands_placed c.args.ops.now c.loop-op.net c.loop-op.op-index c.loop-op.places.items c.requires c.loop-op.invariant c.op-item.result at)

pub add_simplest-requires-clause-stands : goal.add_simplest-requires-clause-stands
add_simplest-requires-clause-stands c =
    let at : slice_get c.args.ops.now c.loop-op.op-index ≡ Some c.op-item.result = slice_get_read c.args.ops.now (length c.args.ops.now) c.loop-op.op-index c.op-item.result refl c.loop-op-test.true c.op-item.is in
    let is = c.renamed.ensures ∙ ap (λ (xs : List ℕ). renamed (nth xs) c.op-item.result) c.deref.ensures.value in
    subst (λ (o : NetOp). Stands (widths_of c.loop-op.net) o) (sym is) (next_stands c.args.ops.now c.loop-op.net c.loop-op.op-index c.loop-op.places.items c.requires c.loop-op.invariant c.op-item.result at)

pub loop-op-preserved : goal.loop-op-preserved
loop-op-preserved c =
    let at : slice_get c.args.ops.now c.loop-op.op-index ≡ Some c.op-item.result = slice_get_read c.args.ops.now (length c.args.ops.now) c.loop-op.op-index c.op-item.result refl c.loop-op-test.true c.op-item.is in
    let is = c.renamed.ensures ∙ ap (λ (xs : List ℕ). renamed (nth xs) c.op-item.result) c.deref.ensures.value in
    let gains = subst (λ (o : NetOp). Gains c.loop-op.net o c.add_simplest.new.net c.in_ok-place.place) is c.in_ok-place.ensures in
    subst (λ (xs : List ℕ). Reduces c.args.ops.now (c.loop-op.op-index + 1) c.add_simplest.new.net xs) (sym c.in_ok-push.ensures.items)
    (reduces-more c.args.ops.now c.loop-op.net c.loop-op.op-index c.loop-op.places.items c.requires c.loop-op.invariant c.op-item.result at c.add_simplest.new.net c.in_ok-place.place gains)
