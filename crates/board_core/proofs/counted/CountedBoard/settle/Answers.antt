use Rattle.std.proofs.Common.{◌≡◌, ℕ, ◌-◌, ◌+◌, List, length, sym, ap, ◌∙◌, subst, arith}
use Rattle.std.specs.Prelude.{slice_index_or, slice_set}
use Rattle.std.proofs.lemmas.List.{get_or_default}
use Rattle.typed_core.specs.declared.design.Parts.{Parts}
use Rattle.board_core.specs.Board.{Opening, settle}
use Rattle.board_core.specs.Kept.{StandsFor}
use Rattle.board_core.specs.inner.Counts.{HasCounts, HasWeights, weight}
use Rattle.board_core.proofs.Counts.{counts_closed, counts_given, counts_on, on_closing, on_other, on_stale, room}
use Rattle.board_core.proofs.counted.CountedBoard.settle.Goals as goal

pub index-requires : goal.index-requires
index-requires c =
    let p = c.recall.ensures in
    let step = c.settle-answer.ensures.step p.board p.stands in
    let g = on_stale c.self.inside.kept.opening p.board p.opening p.plain c.settle-answer.result step.0 c.in-Some.rule (sym c.stale_rule.ensures ∙ c.in-Some.is) in
    omega (arith, g.within, c.self.invariant.0.count, c.self.inside.weights.ok)

pub index_mut-requires-in-Some : goal.index_mut-requires-in-Some
index_mut-requires-in-Some c =
    let p = c.recall.ensures in
    omega (arith, p.window, c.self.invariant.1.count, c.self.inside.counts.ok)

pub overflow_add-index_mut : goal.overflow_add-index_mut
overflow_add-index_mut c =
    let kept = c.self.inside.kept in
    let new = c.settle-answer.new.self in
    let p = c.recall.ensures in
    let step = c.settle-answer.ensures.step p.board p.stands in
    let rule = c.in-Some.rule in
    let g = on_stale kept.opening p.board p.opening p.plain c.settle-answer.result step.0 rule (sym c.stale_rule.ensures ∙ c.in-Some.is) in
    let has = c.self.invariant.0 in
    let w : c.index.result.now ≡ weight kept.opening.design.nodes rule =
    c.index.ensures ∙ get_or_default c.self.inside.weights.items rule c.index.result.now 0 (omega (arith, g.within, has.count)) ∙ has.each rule g.within in
    let items = c.self.inside.counts.items in
    let count : c.index_mut-in-Some.result.now ≡ slice_index_or items 0 0 =
    c.index_mut-in-Some.ensures.value ∙ get_or_default items 0 c.index_mut-in-Some.result.now 0 (omega (arith, p.window, c.self.invariant.1.count)) in
    omega (arith, count, room kept new c.settle-answer.ensures.opening p.opening p.board (settle kept.opening p.board).board p.stands step.1 items c.self.invariant.1 p.window rule g c.index.result.now w, p.opening.design.few_nodes)

pub invariant_of-self : goal.invariant_of-self
invariant_of-self c =
    let kept = c.self.inside.kept in
    let new = c.settle-answer.new.self in
    let same = c.settle-answer.ensures.opening in
    let p = c.recall.ensures in
    let step = c.settle-answer.ensures.step p.board p.stands in
    let has = c.self.invariant.1 in
    let after = subst (StandsFor new) (on_closing kept.opening p.board p.opening p.plain c.settle-answer.result step.0 (sym c.is_closing.ensures ∙ c.if-is_closing.true)) step.1 in (
      subst (λ (o : Opening). HasWeights o.design.nodes (length o.design.rules) c.self.inside.weights.items) (sym same) c.self.invariant.0,
      subst (λ (xs : List ℕ). HasCounts new (slice_set xs (c.len-last.result - 1) c.len-nodes.result)) (sym c.rotate_left.ensures.items)
          (counts_closed kept new p.board same p.opening p.window p.plain p.stands after c.self.inside.counts.items has
          (c.len-last.result - 1) c.len-nodes.result (omega (arith, c.len-last.ensures, c.rotate_left.ensures.len, c.self.inside.counts.ok, has.count))
          (c.len-nodes.ensures ∙ ap (λ (d : Parts). length d.nodes) (c.behind-self.view_is ∙ c.design.ensures ∙ ap (λ (o : Opening). o.design) same))),
    )

pub invariant_of-self-in-Some : goal.invariant_of-self-in-Some
invariant_of-self-in-Some c =
    let kept = c.self.inside.kept in
    let new = c.settle-answer.new.self in
    let same = c.settle-answer.ensures.opening in
    let p = c.recall.ensures in
    let step = c.settle-answer.ensures.step p.board p.stands in
    let rule = c.in-Some.rule in
    let g = on_stale kept.opening p.board p.opening p.plain c.settle-answer.result step.0 rule (sym c.stale_rule.ensures ∙ c.in-Some.is) in
    let has = c.self.invariant.0 in
    let w : c.index.result.now ≡ weight kept.opening.design.nodes rule =
    c.index.ensures ∙ get_or_default c.self.inside.weights.items rule c.index.result.now 0 (omega (arith, g.within, has.count)) ∙ has.each rule g.within in
    let items = c.self.inside.counts.items in
    let count : c.index_mut-in-Some.result.now ≡ slice_index_or items 0 0 =
    c.index_mut-in-Some.ensures.value ∙ get_or_default items 0 c.index_mut-in-Some.result.now 0 (omega (arith, p.window, c.self.invariant.1.count)) in (
      subst (λ (o : Opening). HasWeights o.design.nodes (length o.design.rules) c.self.inside.weights.items) (sym same) has,
      subst (λ (n : ℕ). HasCounts new (slice_set items 0 (n + c.index.result.now))) (sym count)
          (counts_given kept new same p.opening p.board (settle kept.opening p.board).board p.stands step.1 items c.self.invariant.1 p.window rule g c.index.result.now w),
    )

pub invariant_of-self-in_default : goal.invariant_of-self-in_default
invariant_of-self-in_default c =
    let kept = c.self.inside.kept in
    let new = c.settle-answer.new.self in
    let same = c.settle-answer.ensures.opening in
    let p = c.recall.ensures in
    let step = c.settle-answer.ensures.step p.board p.stands in (
      subst (λ (o : Opening). HasWeights o.design.nodes (length o.design.rules) c.self.inside.weights.items) (sym same) c.self.invariant.0,
      counts_on kept new same p.opening p.board (settle kept.opening p.board).board p.stands step.1 c.self.inside.counts.items c.self.invariant.1
          (on_other kept.opening p.board p.opening p.plain c.settle-answer.result step.0 (sym c.is_closing.ensures ∙ c.if-is_closing.false) (sym c.stale_rule.ensures ∙ c.in_default.is)),
    )
