use Rattle.std.proofs.Common.{◌≡◌, ◌-◌, ℕ, true, false, Some, ap, ◌∙◌, subst, arith}
use Rattle.std.specs.Prelude.{slice_index_or}
use Rattle.std.specs.Arc.{arc_value}
use Rattle.typed_core.specs.declared.design.Node.{Node}
use Rattle.board_core.specs.Board.{node_at}
use Rattle.board_core.specs.Kept.{Kept}
use Rattle.board_core.specs.inner.Kept.{kept_by}
use Rattle.board_core.proofs.Counts.{further_later, further_now}
use Rattle.board_core.proofs.Sound as sound
use Rattle.board_core.proofs.kept.KeptBoard.count_further.Goals as goal

pub overflow_sub-result : goal.overflow_sub-result
overflow_sub-result c =
    let i = c.self.inside in
    let before : Kept = kept_by (arc_value i.design) (arc_value i.stimulus) i.first i.last i.window i.cycle i.place i.rows.items i.slots.items in
    let kept = c.args.self.now in
    let p = c.recall.ensures in
    let cycle = ap (λ (k : Kept). k.cycle) c.self.view_is in
    let new = subst (λ (k : Kept). (node : Node) → node_at k.opening.design.nodes k.place.at ≡ Some node → slice_index_or k.place.settled.items node.rule true ≡ false) c.self.view_is
    (sound.head_new before i.blanks.items i.rows.capacity c.self.invariant) in
    let all = ap (λ (n : ℕ). slice_index_or c.args.counts.now (c.args.cycle - n) 0) cycle
    ∙ further_now kept p.board p.opening p.stands c.args.counts.now c.requires.counts c.args.cycle c.requires.from c.requires.within (omega (arith, c.if-self-cycle.false, cycle)) new in
    omega (arith, all, c.count_head.ensures p.board p.stands)

pub returns-then-self-cycle : goal.returns-then-self-cycle
returns-then-self-cycle c board st =
    let kept = c.args.self.now in
    let cycle = ap (λ (k : Kept). k.cycle) c.self.view_is in
    ap (λ (n : ℕ). slice_index_or c.args.counts.now (c.args.cycle - n) 0) cycle
    ∙ further_later kept board c.recall.ensures.opening st c.args.counts.now c.requires.counts c.args.cycle c.requires.from c.requires.within (omega (arith, c.if-self-cycle.true, cycle))

pub returns-else-self-cycle : goal.returns-else-self-cycle
returns-else-self-cycle c board st =
    let i = c.self.inside in
    let before : Kept = kept_by (arc_value i.design) (arc_value i.stimulus) i.first i.last i.window i.cycle i.place i.rows.items i.slots.items in
    let kept = c.args.self.now in
    let cycle = ap (λ (k : Kept). k.cycle) c.self.view_is in
    let new = subst (λ (k : Kept). (node : Node) → node_at k.opening.design.nodes k.place.at ≡ Some node → slice_index_or k.place.settled.items node.rule true ≡ false) c.self.view_is
    (sound.head_new before i.blanks.items i.rows.capacity c.self.invariant) in
    let all = ap (λ (n : ℕ). slice_index_or c.args.counts.now (c.args.cycle - n) 0) cycle
    ∙ further_now kept board c.recall.ensures.opening st c.args.counts.now c.requires.counts c.args.cycle c.requires.from c.requires.within (omega (arith, c.if-self-cycle.false, cycle)) new in
    omega (arith, all, c.count_head.ensures board st)
