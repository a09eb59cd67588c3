use Rattle.std.proofs.Common.{List, sym, ap, subst, ◌∙◌, arith}
use Rattle.std.specs.Prelude.{slice_get}
use Rattle.std.proofs.lemmas.Option.{slice_get-get_or}
use Rattle.aig_blast.specs.Graphs.{Gates, IsGraph}
use Rattle.aig_blast.specs.declared.gate.Gate.{Gate}
use Rattle.aig_blast.proofs.Trimming.{bare-graph, places-next, places-sources}
use Rattle.aig_blast.proofs.trim.copied.Goals as goal

pub loop-gate-init : goal.loop-gate-init
loop-gate-init c = (
  omega (arith, c.in_ok-places.ensures.count, c.source_count-sources.ensures),
  places-sources c.args.graph.now c.new-copy.result c.in_ok-places.places.items (ap (λ (g : Gates). g.sources) c.new-copy.ensures ∙ c.source_count-sources.ensures)
      (λ v place at. let own = c.in_ok-places.ensures.own v place at in (own.0, omega (arith, own.1, c.source_count-sources.ensures))),
  bare-graph c.args.graph.now c.new-copy.result (ap (λ (g : Gates). g.gates) c.new-copy.ensures) (ap (λ (g : Gates). g.sources) c.new-copy.ensures ∙ c.source_count-sources.ensures) c.gates-gates.ensures.graph,
)

pub loop-gate-preserved : goal.loop-gate-preserved
loop-gate-preserved c =
    let l = c.loop-gate in
    let gates : List Gate = c.gates-gates.result.now in
    let at = ap (λ (gs : List Gate). slice_get gs l.gate-index) (sym c.gates-gates.ensures.gates) ∙ slice_get-get_or gates l.gate-index (record { left = 0; right = 0 }) c.loop-gate-test.true in
    places-next c.args.graph.now l.copy c.copied_gate.new.copy l.places.items c.deref.result.now c.push.new.self.items l.gate-index _ c.in_ok-place.place
    c.gates-gates.ensures.graph at l.invariant.0 l.invariant.1 c.deref.ensures.value c.in_ok-push.ensures.items
    c.in_ok-place.ensures.keeps c.in_ok-place.ensures.left c.in_ok-place.ensures.right c.in_ok-place.ensures.makes
    (subst IsGraph c.copy.view_is c.copy.invariant)
