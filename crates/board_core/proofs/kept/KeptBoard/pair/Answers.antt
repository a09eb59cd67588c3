use Rattle.std.proofs.Common.{◌≡◌, ◌<◌, ◌∷◌, [], length, Some, List, refl, ap, ◌∙◌, subst, arith}
use Rattle.std.specs.Prelude.{slice_get, slice_index_or}
use Rattle.std.specs.Arc.{arc_value}
use Rattle.std.proofs.lemmas.Option.{slice_get_read}
use Rattle.typed_core.specs.declared.design.Next.TheVariants as next
use Rattle.typed_core.specs.declared.design.Node.{Node}
use Rattle.typed_core.specs.declared.design.Parts.{Parts}
use Rattle.board_core.specs.Candidates.{pair_at, pair_of, pairs}
use Rattle.board_core.specs.Kept.{Kept}
use Rattle.board_core.proofs.Finds.{pair_get}
use Rattle.board_core.proofs.kept.KeptBoard.pair.Goals as goal

pub returns-clause-pair : goal.returns-clause-pair
returns-clause-pair c =
    let i = c.self.inside in
    let node = c.get-node.result.now in
    let here = (arc_value i.design).nodes in
    let same = ap (λ (k : Kept). length k.opening.design.nodes) c.self.view_is in
    let inside : c.args.number < length here = omega (arith, c.requires, same) in
    let nodes = ap (λ (d : Parts). d.nodes) (c.behind-self.view_is ∙ c.deref.ensures) in
    let found = slice_get_read here (length here) c.args.number node refl inside (c.get-node.ensures ∙ ap (λ (ns : List Node). slice_index_or ns c.args.number node) nodes) in
    subst (λ (k : Kept). slice_get (pairs k.opening.design.nodes c.args.cycle) c.args.number ≡ Some (pair_of c.args.cycle (c.args.number, node))) c.self.view_is
    (pair_get c.args.cycle here c.args.number node found)

pub returns-clause-head : goal.returns-clause-head
returns-clause-head c =
    let i = c.self.inside in
    let node = c.get-node.result.now in
    let here = (arc_value i.design).nodes in
    let same = ap (λ (k : Kept). length k.opening.design.nodes) c.self.view_is in
    let inside : c.args.number < length here = omega (arith, c.requires, same) in
    let nodes = ap (λ (d : Parts). d.nodes) (c.behind-self.view_is ∙ c.deref.ensures) in
    let found = slice_get_read here (length here) c.args.number node refl inside (c.get-node.ensures ∙ ap (λ (ns : List Node). slice_index_or ns c.args.number node) nodes) in
    subst (λ (k : Kept). pair_at c.args.cycle (next.Node c.args.number) (slice_get k.opening.design.nodes c.args.number) ≡ pair_of c.args.cycle (c.args.number, node) ∷ []) c.self.view_is
    (ap (pair_at c.args.cycle (next.Node c.args.number)) found)

pub returns-clause-rule : goal.returns-clause-rule
returns-clause-rule c =
    let i = c.self.inside in
    let node = c.get-node.result.now in
    let here = (arc_value i.design).nodes in
    let same = ap (λ (k : Kept). length k.opening.design.nodes) c.self.view_is in
    let inside : c.args.number < length here = omega (arith, c.requires, same) in
    let nodes = ap (λ (d : Parts). d.nodes) (c.behind-self.view_is ∙ c.deref.ensures) in
    let found = slice_get_read here (length here) c.args.number node refl inside (c.get-node.ensures ∙ ap (λ (ns : List Node). slice_index_or ns c.args.number node) nodes) in
    subst (λ (k : Kept). node.rule < length k.opening.design.rules) c.self.view_is (c.self.invariant.opening.design.nodes c.args.number node found).rule
