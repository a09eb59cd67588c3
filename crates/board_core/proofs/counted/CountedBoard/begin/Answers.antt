use Rattle.std.proofs.Common.{◌≡◌, ℕ, length, replicate, sym, ap, ◌∙◌, subst}
use Rattle.std.specs.Arc.{arc_value}
use Rattle.typed_core.specs.declared.design.Parts.{Parts}
use Rattle.board_core.specs.Board.{Opening}
use Rattle.board_core.specs.inner.Counts.{HasWeights}
use Rattle.board_core.proofs.Counts.{begun_counts}
use Rattle.board_core.proofs.counted.CountedBoard.begin.Goals as goal

pub invariant_of-result : goal.invariant_of-result
invariant_of-result c =
    let a = c.args in
    let o : Opening = record { design = arc_value a.design; stimulus = arc_value a.stimulus; regs = a.regs; from = a.span.from; to = a.span.to; window = a.span.window } in
    let same : c.in_ok-kept.kept.opening ≡ o = c.in_ok-kept.ensures.opening in
    let nodes : c.len.result ≡ length o.design.nodes = c.len.ensures ∙ ap (λ (d : Parts). length d.nodes) (c.behind-design.view_is ∙ c.deref-2.ensures) in (
      subst (λ (d : Parts). HasWeights d.nodes (length d.rules) c.in_ok-weights.weights.items) (c.deref.ensures ∙ sym (ap (λ (x : Opening). x.design) same)) c.in_ok-weights.ensures,
      begun_counts c.in_ok-kept.kept o same c.recall.ensures.opening c.in_ok-kept.ensures.opened c.in_ok-counts.counts.items
          (c.in_ok-counts.ensures.items_if_clones_equal (λ y e. e) ∙ ap (λ (n : ℕ). replicate o.window n) nodes),
    )
