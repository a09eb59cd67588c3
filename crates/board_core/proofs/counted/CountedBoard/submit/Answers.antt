use Rattle.std.proofs.Common.{◌≡◌, ℕ, ◌-◌, ◌<◌, length, sym, ap, ap₂, ◌∙◌, subst, arith}
use Rattle.std.specs.Prelude.{slice_index_or, slice_set}
use Rattle.std.proofs.lemmas.List.{get_or_default}
use Rattle.one_rule.proofs.Alike.{length-same}
use Rattle.board_core.specs.Board.{Opening}
use Rattle.board_core.specs.Kept.{Kept}
use Rattle.board_core.specs.inner.Counts.{HasCounts, HasWeights, weight}
use Rattle.board_core.proofs.Counts.{counts_taken, enough, taken_at}
use Rattle.board_core.proofs.counted.CountedBoard.submit.Goals as goal

pub index-requires : goal.index-requires
index-requires c =
    let a = c.args.attempt in
    let rules = length-same a.design.rules c.args.self.now.opening.design.rules c.requires.design.rules in
    let same = ap (λ (k : Kept). length k.opening.design.rules) c.self.view_is in
    omega (arith, c.recall.ensures.rule, c.rule-rule.ensures.rule, rules, same, c.self.invariant.0.count, c.self.inside.weights.ok)

pub overflow_sub-index_mut : goal.overflow_sub-index_mut
overflow_sub-index_mut c =
    let a = c.args.attempt in
    let kept = c.self.inside.kept in
    let rules = length-same a.design.rules c.args.self.now.opening.design.rules c.requires.design.rules in
    let same = ap (λ (k : Kept). length k.opening.design.rules) c.self.view_is in
    let rule : a.rule < length kept.opening.design.rules = omega (arith, c.recall.ensures.rule, rules, same) in
    let has = c.self.invariant.0 in
    let weight' : c.index.result.now ≡ weight kept.opening.design.nodes a.rule =
    c.index.ensures ∙ get_or_default c.self.inside.weights.items c.rule-rule.result c.index.result.now 0 (omega (arith, rule, c.rule-rule.ensures.rule, has.count))
    ∙ ap (λ (r : ℕ). slice_index_or c.self.inside.weights.items r 0) c.rule-rule.ensures.rule ∙ has.each a.rule rule in
    let p = c.recall-2.ensures in
    let step = c.submit-answer.ensures.step p.board p.stands in
    let t = taken_at kept c.submit-answer.new.self p.board a c.submit-answer.result p.stands (sym c.is_stored.ensures ∙ c.if-is_stored.true) step.0 step.1 in
    let k = c.cycle-cycle.result - c.cycle-now.result in
    let place : k ≡ a.cycle - kept.cycle = ap₂ (λ (n m : ℕ). n - m) c.cycle-cycle.ensures c.cycle-now.ensures in
    let items = c.self.inside.counts.items in
    let count : c.index_mut.result.now ≡ slice_index_or items k 0 =
    c.index_mut.ensures.value ∙ get_or_default items k c.index_mut.result.now 0 (omega (arith, place, t.from, t.within, c.self.invariant.1.count)) in
    omega (arith, count, enough kept c.submit-answer.new.self c.submit-answer.ensures.opening p.opening p.board a p.stands t items c.self.invariant.1 c.index.result.now k weight' place)

pub invariant_of-self : goal.invariant_of-self
invariant_of-self c =
    let a = c.args.attempt in
    let kept = c.self.inside.kept in
    let new = c.submit-answer.new.self in
    let rules = length-same a.design.rules c.args.self.now.opening.design.rules c.requires.design.rules in
    let same = ap (λ (k : Kept). length k.opening.design.rules) c.self.view_is in
    let rule : a.rule < length kept.opening.design.rules = omega (arith, c.recall.ensures.rule, rules, same) in
    let has = c.self.invariant.0 in
    let weight' : c.index.result.now ≡ weight kept.opening.design.nodes a.rule =
    c.index.ensures ∙ get_or_default c.self.inside.weights.items c.rule-rule.result c.index.result.now 0 (omega (arith, rule, c.rule-rule.ensures.rule, has.count))
    ∙ ap (λ (r : ℕ). slice_index_or c.self.inside.weights.items r 0) c.rule-rule.ensures.rule ∙ has.each a.rule rule in
    let p = c.recall-2.ensures in
    let step = c.submit-answer.ensures.step p.board p.stands in
    let t = taken_at kept new p.board a c.submit-answer.result p.stands (sym c.is_stored.ensures ∙ c.if-is_stored.true) step.0 step.1 in
    let k = c.cycle-cycle.result - c.cycle-now.result in
    let place : k ≡ a.cycle - kept.cycle = ap₂ (λ (n m : ℕ). n - m) c.cycle-cycle.ensures c.cycle-now.ensures in
    let items = c.self.inside.counts.items in
    let count : c.index_mut.result.now ≡ slice_index_or items k 0 =
    c.index_mut.ensures.value ∙ get_or_default items k c.index_mut.result.now 0 (omega (arith, place, t.from, t.within, c.self.invariant.1.count)) in (
      subst (λ (o : Opening). HasWeights o.design.nodes (length o.design.rules) c.self.inside.weights.items) (sym c.submit-answer.ensures.opening) c.self.invariant.0,
      subst (λ (n : ℕ). HasCounts new (slice_set items k (n - c.index.result.now))) (sym count)
          (counts_taken kept new c.submit-answer.ensures.opening p.opening p.board a p.stands t items c.self.invariant.1 c.index.result.now k weight' place),
    )
