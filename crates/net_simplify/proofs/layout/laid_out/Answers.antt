use Rattle.std.proofs.Common.{◌+◌, ◌<◌, ℕ, List, length, refl, sym, ap, subst, ◌∙◌}
use Rattle.std.specs.List.{All}
use Rattle.std.proofs.lemmas.Option.{slice_get_read}
use Rattle.net_graph.specs.Nets.{Adds, Stands, widths_of}
use Rattle.net_graph.specs.declared.node.NetOp.{NetOp}
use Rattle.circuit_eval.specs.Tidy.{operands}
use Rattle.net_simplify.specs.inner.Passes.{LaysOut, nth, renamed}
use Rattle.net_simplify.proofs.Laying.{lays-more, lays-skipped, moved_stands, operands_within}
use Rattle.net_simplify.proofs.layout.laid_out.Goals as goal
use Rattle.net_simplify.proofs.layout.laid_out.Goals.{then-serves-id+in_ok-place, else-serves-id}

pub renamed-requires : goal.renamed-requires
renamed-requires c = subst (λ (xs : List ℕ). All (λ a. a < length xs) (operands c.index-ops-id.result)) (sym c.deref.ensures.value) (operands_within c.args.ops.now c.args.serves.now c.requires.net c.requires.closed c.loop-id.id c.loop-id.net c.loop-id.places.items c.loop-id.invariant c.index-ops-id.result (slice_get_read c.args.ops.now (length c.args.ops.now) c.loop-id.id c.index-ops-id.result refl c.loop-id-test.true c.index-ops-id.is))

pub add-requires : goal.add-requires
add-requires c =
    let is = c.renamed.ensures ∙ ap (λ (xs : List ℕ). renamed (nth xs) c.index-ops-id.result) c.deref.ensures.value in
    subst (λ (o : NetOp). Stands (widths_of c.loop-id.net) o) (sym is) (moved_stands c.args.ops.now c.args.serves.now c.requires.net c.requires.closed c.loop-id.id c.loop-id.net c.loop-id.places.items c.loop-id.invariant c.index-ops-id.result (slice_get_read c.args.ops.now (length c.args.ops.now) c.loop-id.id c.index-ops-id.result refl c.loop-id-test.true c.index-ops-id.is) c.if-serves-id.true)

pub loop-id-preserved : goal.loop-id-preserved
loop-id-preserved c =
    subst (λ (xs : List ℕ). LaysOut c.args.ops.now c.args.serves.now (c.loop-id.id + 1) c.if-serves-id.net xs) (sym c.in_ok-push.ensures.items)
    (elim c.if-serves-id.branch [
      | then-serves-id+in_ok-place w ↦
          let is = w.renamed.ensures ∙ ap (λ (xs : List ℕ). renamed (nth xs) c.index-ops-id.result) w.deref.ensures.value in
          let adds = subst (λ (o : NetOp). Adds c.loop-id.net o w.in_ok-place.place w.add.new.self) is w.in_ok-place.ensures.adds in
          rw (w.net-is, w.place-is) (lays-more c.args.ops.now c.args.serves.now c.requires.net c.requires.closed c.loop-id.id c.loop-id.net c.loop-id.places.items c.loop-id.invariant c.index-ops-id.result (slice_get_read c.args.ops.now (length c.args.ops.now) c.loop-id.id c.index-ops-id.result refl c.loop-id-test.true c.index-ops-id.is) w.if-serves-id.true w.add.new.self w.in_ok-place.place w.in_ok-place.ensures.net adds)
      | else-serves-id w ↦ rw (w.net-is, w.place-is) (lays-skipped c.args.ops.now c.args.serves.now c.requires.net c.requires.closed c.loop-id.id c.loop-id.net c.loop-id.places.items c.loop-id.invariant c.index-ops-id.result (slice_get_read c.args.ops.now (length c.args.ops.now) c.loop-id.id c.index-ops-id.result refl c.loop-id-test.true c.index-ops-id.is) w.if-serves-id.false 0)
    ])
