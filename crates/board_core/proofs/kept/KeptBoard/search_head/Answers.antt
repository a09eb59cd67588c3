use Rattle.std.specs.Prelude.{slice_get, is_some}
use Rattle.typed_core.specs.declared.design.Next.TheVariants as next
use Rattle.std.proofs.Common.{◌≡◌, ◌+◌, [], ℕ, length, List, not, sym, ap, ◌∙◌, subst, arith}
use Rattle.std.specs.Arc.{arc_value}
use Rattle.typed_core.specs.declared.design.Next.{Next}
use Rattle.board_core.specs.Board.{node_at}
use Rattle.board_core.specs.Candidates.{pair_at}
use Rattle.board_core.specs.Kept.{Kept, slots_from}
use Rattle.board_core.specs.inner.Kept.{kept_by}
use Rattle.board_core.specs.inner.Search.{Finds}
use Rattle.board_core.specs.declared.candidate.Candidate.{Candidate}
use Rattle.board_core.proofs.Finds.{first_same}
use Rattle.board_core.proofs.Sound as sound
use Rattle.board_core.proofs.kept.KeptBoard.search_head.Goals as goal

pub pair-pair-requires : goal.pair-pair-requires
pair-pair-requires c =
    let i = c.self.inside in
    let kept : Kept = kept_by (arc_value i.design) (arc_value i.stimulus) i.first i.last i.window i.cycle i.place i.rows.items i.slots.items in
    let same = ap (λ (k : Kept). length k.opening.design.nodes) c.self.view_is in
    omega (arith, same, sound.head_inside kept i.blanks.items i.rows.capacity c.self.invariant c.in-Node.node c.in-Node.is)

pub returns-in-Node-clause-finds : goal.returns-in-Node-clause-finds
returns-in-Node-clause-finds c board st =
    let kept = c.args.self.now in
    let pair = c.pair-pair.result in
    let at = sym (ap (λ (k : Kept). k.place.at) c.self.view_is) ∙ c.in-Node.is in
    let cycle = sym (ap (λ (k : Kept). k.cycle) c.self.view_is) in
    let here = ap (λ (n : Next). pair_at kept.cycle n (node_at kept.opening.design.nodes n)) at ∙ ap (λ (n : ℕ). pair_at n (next.Node c.in-Node.node) (slice_get kept.opening.design.nodes c.in-Node.node)) cycle ∙ c.pair-pair.ensures.head in
    let zero : c.args.number + 0 ≡ c.args.number = omega arith in
    subst (λ (all : List Candidate). Finds all c.args.number c.past.result)
    (first_same kept board st pair (not c.stands_at.result) here (c.pair-pair.ensures.cycle ∙ sym cycle) (ap not (c.stands_at.ensures ∙ ap (λ (n : ℕ). is_some (slots_from kept.cycle kept.slots n pair.rule)) (sym cycle))))
    (c.past.ensures.finds [] c.args.number zero)
