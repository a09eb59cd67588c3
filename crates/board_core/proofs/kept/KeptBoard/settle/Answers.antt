use Rattle.std.proofs.Common.{◌≡◌, length, Some, List, refl, ap, ◌∙◌, subst, arith}
use Rattle.std.specs.Prelude.{slice_index_or}
use Rattle.std.specs.Arc.{arc_value}
use Rattle.typed_core.specs.declared.design.Node.{Node}
use Rattle.typed_core.specs.declared.design.Parts.{Parts}
use Rattle.board_core.specs.Board.{node_at}
use Rattle.board_core.specs.Kept.{Kept}
use Rattle.board_core.specs.inner.Kept.{kept_by}
use Rattle.std.proofs.lemmas.Option.{slice_get_read}
use Rattle.board_core.proofs.Sound as sound
use Rattle.board_core.proofs.kept.KeptBoard.settle.Goals as goal

pub get-node-requires : goal.get-node-requires
get-node-requires c =
    let i = c.self.inside in
    let kept : Kept = kept_by (arc_value i.design) (arc_value i.stimulus) i.first i.last i.window i.cycle i.place i.rows.items i.slots.items in
    let nodes = ap (λ (d : Parts). length d.nodes) (c.behind-self.view_is ∙ c.deref.ensures) in
    omega (arith, nodes, sound.head_inside kept i.blanks.items i.rows.capacity c.self.invariant c.in-Node.number c.in-Node.is)

pub settle_rule-requires-clause-head : goal.settle_rule-requires-clause-head
settle_rule-requires-clause-head c =
    let i = c.self.inside in
    let kept : Kept = kept_by (arc_value i.design) (arc_value i.stimulus) i.first i.last i.window i.cycle i.place i.rows.items i.slots.items in
    let node = c.get-node.result.now in
    let inside = sound.head_inside kept i.blanks.items i.rows.capacity c.self.invariant c.in-Node.number c.in-Node.is in
    let nodes = ap (λ (d : Parts). d.nodes) (c.behind-self.view_is ∙ c.deref.ensures) in
    let found = slice_get_read kept.opening.design.nodes (length kept.opening.design.nodes) c.in-Node.number node refl inside (c.get-node.ensures ∙ ap (λ (ns : List Node). slice_index_or ns c.in-Node.number node) nodes) in
    subst (λ (k : Kept). node_at k.opening.design.nodes k.place.at ≡ Some node) c.self.view_is (ap (node_at kept.opening.design.nodes) c.in-Node.is ∙ found)
